use Rattle.serde_json.specs.View.{view, members_view}
use Rattle.gp_listing.proofs.JsonMembers.{put_whole}
use Rattle.gp_listing.proofs.json.member.put_value.Goals as goal

pub returns-clause-whole : goal.returns-clause-whole
returns-clause-whole c = put_whole c.put.result c.args.key.now (view c.args.value) (members_view c.args.map.now.entries) _ c.requires c.put.ensures.ok
