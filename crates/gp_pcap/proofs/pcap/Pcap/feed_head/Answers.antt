use Rattle.std.proofs.Common.{◌+◌, List, [], ◌∷◌, ◌++◌, ◌∙◌, sym, ap, subst, append-nil, arith, length, length-append}
use Rattle.gp_pcap.specs.declared.packet.Packet.{Packet}
use Rattle.gp_pcap.specs.declared.pcap.Phase.{Phase}
use Rattle.gp_pcap.specs.declared.pcap.Phase.TheVariants.{Head}
use Rattle.gp_pcap.specs.Reading.{Stands, StandsIn, IsKeptIn, Progress}
use Rattle.gp_pcap.proofs.Standing.{stands-part, kept-part, counted, holds-more, holds-packet, is_empty_packet, head-refused, begins-body, cleared}
use Rattle.gp_pcap.proofs.pcap.Pcap.feed_head.Goals as goal

pub returns-in-On-clause-moves : goal.returns-in-On-clause-moves
returns-in-On-clause-moves c = λ fed given h.
    let view = c.self.view_is in
    let inside = subst (λ (p : Progress). Stands fed given p) (sym view) h in
    let phase = ap (λ (p : Progress). p.phase) view ∙ c.requires.part in
    let part = stands-part fed given _ Head phase inside in
    let kept = kept-part _ Head phase inside.kept in
    let judged = rw c.as_slice.ensures.value at c.in-On.ensures in
    let now : Progress = record { fed = c.self.inside.fed + 1; phase = c.self.inside.phase; most = c.self.inside.most; checked = c.self.inside.checked; head = c.push.new.self.items; left = c.self.inside.left; size = c.self.inside.size; frame = c.self.inside.frame } in
    record {
      kept = subst (λ (p : Phase). IsKeptIn p now) (sym phase) (judged.0, omega (arith, kept.1, ap length c.push.ensures.items, length-append c.self.inside.head.items (c.args.octet ∷ [])), judged.1);
      count = counted fed c.self.inside.fed c.args.octet inside.count;
      part = subst (λ (p : Phase). StandsIn p (fed ++ c.args.octet ∷ []) (given ++ []) now) (sym phase)
          (subst (λ (g : List Packet). StandsIn Head (fed ++ c.args.octet ∷ []) g now) (sym (append-nil given))
          (holds-more c.self.inside.most c.self.inside.checked fed given (c.args.octet ∷ []) c.self.inside.head.items c.push.new.self.items part c.push.ensures.items));
    }

pub returns-in-TooLong-clause-moves : goal.returns-in-TooLong-clause-moves
returns-in-TooLong-clause-moves c = λ fed given h.
    let view = c.self.view_is in
    let inside = subst (λ (p : Progress). Stands fed given p) (sym view) h in
    let part = stands-part fed given _ Head (ap (λ (p : Progress). p.phase) view ∙ c.requires.part) inside in
    let judged = rw c.as_slice.ensures.value at c.in-TooLong.ensures in
    record {
      kept = tt;
      count = counted fed c.self.inside.fed c.args.octet inside.count;
      part = head-refused c.self.inside.most c.self.inside.checked fed given c.args.octet c.self.inside.fed c.self.inside.head.items c.push.new.self.items part c.push.ensures.items judged.0 judged.1 inside.count;
    }

pub returns-in-Empty-clause-moves : goal.returns-in-Empty-clause-moves
returns-in-Empty-clause-moves c = λ fed given h.
    let view = c.self.view_is in
    let inside = subst (λ (p : Progress). Stands fed given p) (sym view) h in
    let phase = ap (λ (p : Progress). p.phase) view ∙ c.requires.part in
    let part = stands-part fed given _ Head phase inside in
    let judged = rw c.as_slice.ensures.value at c.in-Empty.ensures in
    let now : Progress = record { fed = c.self.inside.fed + 1; phase = c.self.inside.phase; most = c.self.inside.most; checked = c.self.inside.checked; head = c.clear.new.self.items; left = c.self.inside.left; size = c.self.inside.size; frame = c.self.inside.frame } in
    record {
      kept = subst (λ (p : Phase). IsKeptIn p now) (sym phase) (cleared c.clear.new.self.items (c.self.inside.fed + 1) c.self.inside.most c.clear.ensures);
      count = counted fed c.self.inside.fed c.args.octet inside.count;
      part = subst (λ (p : Phase). StandsIn p (fed ++ c.args.octet ∷ []) (given ++ c.packet_of-packet.result ∷ []) now) (sym phase)
          (holds-packet c.self.inside.most c.self.inside.checked (fed ++ c.args.octet ∷ []) given c.packet_of-packet.result c.push.new.self.items c.clear.new.self.items
          (holds-more c.self.inside.most c.self.inside.checked fed given (c.args.octet ∷ []) c.self.inside.head.items c.push.new.self.items part c.push.ensures.items)
          (is_empty_packet c.self.inside.most c.self.inside.checked c.push.new.self.items c.packet_of-packet.result judged.0 judged.1
          (rw (← c.as_slice-in-Empty.ensures.value) c.packet_of-packet.ensures.seconds) (rw (← c.as_slice-in-Empty.ensures.value) c.packet_of-packet.ensures.fraction) (c.packet_of-packet.ensures.frame ∙ c.new.ensures))
          c.clear.ensures);
    }

pub returns-in-Includes-clause-moves : goal.returns-in-Includes-clause-moves
returns-in-Includes-clause-moves c = λ fed given h.
    let view = c.self.view_is in
    let inside = subst (λ (p : Progress). Stands fed given p) (sym view) h in
    let part = stands-part fed given _ Head (ap (λ (p : Progress). p.phase) view ∙ c.requires.part) inside in
    let judged = rw c.as_slice.ensures.value at c.in-Includes.ensures in
    record {
      kept = (judged.0, omega (arith, judged.1, judged.3), judged.2, judged.4);
      count = counted fed c.self.inside.fed c.args.octet inside.count;
      part = begins-body c.self.inside.most c.self.inside.checked (fed ++ c.args.octet ∷ []) given c.push.new.self.items c.in-Includes.count c.in-Includes.size c.new-self-inside.result
          (holds-more c.self.inside.most c.self.inside.checked fed given (c.args.octet ∷ []) c.self.inside.head.items c.push.new.self.items part c.push.ensures.items) judged.1 c.new-self-inside.ensures;
    }
