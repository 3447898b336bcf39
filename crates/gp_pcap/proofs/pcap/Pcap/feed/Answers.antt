use Rattle.std.proofs.Common.{sym, subst}
use Rattle.gp_pcap.specs.Reading.{Stands, Progress}
use Rattle.gp_pcap.proofs.Standing.{feeds, feeds_again}
use Rattle.gp_pcap.proofs.pcap.Pcap.feed.Goals as goal

pub returns-in-Header-clause-feeds : goal.returns-in-Header-clause-feeds
returns-in-Header-clause-feeds c = feeds c.args.self.now c.args.octet c.feed_header.result c.feed_header.new.self c.feed_header.ensures.moves c.feed_header.ensures.told

pub returns-in-Head-clause-feeds : goal.returns-in-Head-clause-feeds
returns-in-Head-clause-feeds c = feeds c.args.self.now c.args.octet c.feed_head.result c.feed_head.new.self c.feed_head.ensures.moves c.feed_head.ensures.told

pub returns-in-Body-clause-feeds : goal.returns-in-Body-clause-feeds
returns-in-Body-clause-feeds c = feeds c.args.self.now c.args.octet c.feed_body.result c.feed_body.new.self c.feed_body.ensures.moves c.feed_body.ensures.told

pub returns-in-Refused-clause-feeds : goal.returns-in-Refused-clause-feeds
returns-in-Refused-clause-feeds c = λ fed given h.
    feeds_again _ c.args.octet c.in-Refused.place c.in-Refused.reason c.in-Refused.is fed given (subst (λ (p : Progress). Stands fed given p) (sym c.self.view_is) h)
