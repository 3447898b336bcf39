use Rattle.std.proofs.Common.{◌≡◌, ◌+◌, sym, ◌∙◌, ap}
use Rattle.gp_pcap.specs.declared.pcap.Phase.TheVariants.{Header}
use Rattle.gp_pcap.specs.Reading.{Progress}
use Rattle.gp_pcap.proofs.Standing.{stands-part, counted, header-whole, cleared}
use Rattle.gp_pcap.proofs.pcap.Pcap.feed_header.Goals as goal

pub returns-in-Whole-clause-moves : goal.returns-in-Whole-clause-moves
returns-in-Whole-clause-moves c = λ fed given h.
    let part = stands-part fed given c.args.self.now Header c.requires.part h in
    let head : c.self.inside.head.items ≡ c.args.self.now.head = ap (λ (p : Progress). p.head) c.self.view_is in
    let count : c.self.inside.fed ≡ c.args.self.now.fed = ap (λ (p : Progress). p.fed) c.self.view_is in
    record {
      kept = cleared c.clear.new.self.items (c.self.inside.fed + 1) c.in-Whole.most c.clear.ensures;
      count = counted fed c.self.inside.fed c.args.octet (h.count ∙ sym count);
      part = header-whole c.in-Whole.most c.in-Whole.checked fed given c.args.octet c.self.inside.head.items c.push.new.self.items c.clear.new.self.items (part.0 ∙ sym head) part.1 c.push.ensures.items c.clear.ensures (rw (← c.as_slice.ensures.value) c.in-Whole.ensures);
    }
