use Rattle.std.proofs.Common.{arith}
use Rattle.gp_store.proofs.Spelling.{appended_spelled}
use Rattle.gp_store.proofs.codec.spell.Goals as goal

pub returns-clause-spelled : goal.returns-clause-spelled
returns-clause-spelled c =
    appended_spelled c.args.row.now c.args.generation c.new-octets.result.items c.spell_name.new.octets.items c.spell_pairing.new.octets.items c.spell_numbers.new.octets.items
    c.new-octets.ensures c.spell_name.ensures.items c.spell_pairing.ensures.items c.spell_numbers.ensures.items
    c.spell_name.ensures.key (omega arith) c.spell_name.ensures.source c.spell_pairing.ensures.group c.spell_numbers.ensures.order c.spell_numbers.ensures.floor
