use Rattle.std.proofs.Common.{ap, sym, subst, length, arith}
use Rattle.gp_pcap.specs.Reading.{Stands, Progress}
use Rattle.gp_pcap.proofs.Standing.{ends_refused, ends_header, ends_head, ends_body}
use Rattle.gp_pcap.proofs.pcap.Pcap.ending.Goals as goal

pub returns-in-Refused : goal.returns-in-Refused
returns-in-Refused c = λ fed given h. ends_refused fed given _ c.in-Refused.place c.in-Refused.reason c.in-Refused.is (subst (λ (p : Progress). Stands fed given p) (sym c.self.view_is) h)

pub returns-in-Header : goal.returns-in-Header
returns-in-Header c = λ fed given h. ends_header fed given _ c.in-Header.is (subst (λ (p : Progress). Stands fed given p) (sym c.self.view_is) h)

pub returns-in-Head-2 : goal.returns-in-Head-2
returns-in-Head-2 c = λ fed given h. ends_head fed given _ c.in-Head-2.is (omega (arith, ap length c.as_slice.ensures.value, c.if-as_slice-eq0.false)) (subst (λ (p : Progress). Stands fed given p) (sym c.self.view_is) h)

pub returns-in-Body : goal.returns-in-Body
returns-in-Body c = λ fed given h. ends_body fed given _ c.in-Body.is (subst (λ (p : Progress). Stands fed given p) (sym c.self.view_is) h)
