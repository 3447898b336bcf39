-- Rows that are alike.
use Rattle.std.proofs.Common.{◌≡◌, ℕ, Bool, List, ◌∙◌, ap}
use Rattle.gp_base.specs.declared.identity.Src.{Src}
use Rattle.gp_base.specs.declared.identity.Key.{Key}
use Rattle.gp_base.specs.declared.identity.Level.{Level}
use Rattle.gp_base.specs.declared.identity.KeyKind.{KeyKind}
use Rattle.gp_base.specs.declared.identity.Mode.{Mode}
use Rattle.gp_rows.specs.declared.row.Row.{Row}
use Rattle.gp_power.specs.Inside.{IsAlike}

-- two rows that are alike, and have one order, are one
pub alike_is : (a b : Row) → IsAlike a b → a ≡ record b { order = a.order }
alike_is a b p =
    let src : a.src ≡ b.src = ap (λ (n : ℕ). let s : Src = record { 0 = n } in s) p.src in
    let key : a.key ≡ b.key = ap (λ (l : List ℕ). let k : Key = record { 0 = l } in k) p.key in
    ap (λ (x : Src). record a { src = x }) src
    ∙ ap (λ (x : Key). record a { src = b.src; key = x }) key
    ∙ ap (λ (x : KeyKind). record a { src = b.src; key = b.key; kind = x }) p.kind
    ∙ ap (λ (x : Level). record a { src = b.src; key = b.key; kind = b.kind; level = x }) p.level
    ∙ ap (λ (x : Mode). record b { group = a.group; device = a.device; order = a.order; live = a.live; floor = a.floor; mode = x }) p.mode
    ∙ ap (λ (x : ℕ). record b { group = x; device = a.device; order = a.order; live = a.live; floor = a.floor }) p.group
    ∙ ap (λ (x : ℕ). record b { device = x; order = a.order; live = a.live; floor = a.floor }) p.device
    ∙ ap (λ (x : Bool). record b { order = a.order; live = x; floor = a.floor }) p.live
    ∙ ap (λ (x : ℕ). record b { order = a.order; floor = x }) p.floor
