use Rattle.std.proofs.Common.{ℕ, ◌+◌, List, [], ◌∷◌, ◌++◌, ◌∙◌, sym, ap, subst, append_assoc, length-append, arith}
use Rattle.gp_pcap.specs.declared.pcap.Phase.TheVariants.{Body}
use Rattle.gp_pcap.specs.Reading.{Stands, Progress}
use Rattle.gp_pcap.proofs.Standing.{stands-part, kept-part, counted, holds-more, holds-packet, is_packet, cleared}
use Rattle.gp_pcap.proofs.pcap.Pcap.feed_body.Goals as goal

pub returns-clause-moves : goal.returns-clause-moves
returns-clause-moves c = λ fed given h.
    let view = c.self.view_is in
    let inside = subst (λ (p : Progress). Stands fed given p) (sym view) h in
    let phase = ap (λ (p : Progress). p.phase) view ∙ c.requires.part in
    let part = stands-part fed given _ Body phase inside in
    let kept = kept-part _ Body phase inside.kept in
    let head : List ℕ = c.self.inside.head.items in
    let body : List ℕ = part.0 ++ c.args.octet ∷ [] in
    record {
      kept = cleared c.clear.new.self.items (c.self.inside.fed + 1) c.self.inside.most c.clear.ensures;
      count = counted fed c.self.inside.fed c.args.octet inside.count;
      part = holds-packet c.self.inside.most c.self.inside.checked (fed ++ c.args.octet ∷ []) given c.packet_of-packet.result (head ++ body) c.clear.new.self.items
          (holds-more c.self.inside.most c.self.inside.checked fed given (c.args.octet ∷ []) (head ++ part.0) (head ++ body) part.1 (sym (append_assoc head part.0 (c.args.octet ∷ []))))
          (is_packet c.self.inside.most c.self.inside.checked head body c.packet_of-packet.result c.self.inside.size kept.0 kept.1 (omega (arith, part.2, length-append part.0 (c.args.octet ∷ []), kept.2, c.if-self-gt0.false)) kept.3
          (rw (← c.as_slice.ensures.value) c.packet_of-packet.ensures.seconds) (rw (← c.as_slice.ensures.value) c.packet_of-packet.ensures.fraction) (c.packet_of-packet.ensures.frame ∙ c.copy.ensures ∙ c.keep.ensures part.0 part.3))
          c.clear.ensures;
    }
