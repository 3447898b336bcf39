use Rattle.std.proofs.Common.{true, false, [], sym, ap, ◌∙◌, append-nil}
use Rattle.gp_pcap.specs.Capture.{header_fault}
use Rattle.gp_pcap.proofs.Faults.{whole_fault}
use Rattle.gp_pcap.proofs.numbers.judge_link.Goals as goal

pub returns-then-is_link : goal.returns-then-is_link
returns-then-is_link c = record {
  size = c.requires.part;
  good = sym (ap (λ l. header_fault l) (append-nil c.args.head.now)) ∙ whole_fault c.args.head.now c.requires.part c.requires.magic c.requires.version true (sym c.is_link.ensures ∙ c.if-is_link.true) [];
  order = c.requires.order;
  check = c.has_check.ensures;
}

pub returns-else-is_link : goal.returns-else-is_link
returns-else-is_link c = whole_fault c.args.head.now c.requires.part c.requires.magic c.requires.version false (sym c.is_link.ensures ∙ c.if-is_link.false)
