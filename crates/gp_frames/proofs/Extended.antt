-- Which fields a frame has, by its control and its extension.
use Rattle.std.proofs.Common.{◌≡◌, ℕ, ◌%◌, ◌/◌, Bool, true, false, ◌||◌, eqb, leb, List, refl, if◌then◌else◌}
use Rattle.std.specs.Prelude.{is_some}
use Rattle.std.specs.Option.{option_map_or}
use Rattle.gp_base.specs.Field.{value_if, octet_at}
use Rattle.gp_frames.specs.declared.frame.Ext.{Ext}
use Rattle.gp_frames.specs.Reasons.{has_src, has_security, is_extended}
use Rattle.gp_frames.specs.Reading.{ext_in, ext_at}

there : (e : Bool) (ext : Ext) (a : Bool) → (a || is_some (value_if e ext)) ≡ (a || e)
there true ext a = refl
there false ext a = refl

level : (e : Bool) (o : ℕ) → leb 2 (option_map_or (λ ext. ext.level) (value_if e (ext_in o)) 0) ≡ leb 2 ((if e then o else 0) / 8 % 4)
level true o = refl
level false o = refl

pub src_told : (b : List ℕ) → (eqb (octet_at b 7 % 4) 0 || is_some (ext_at b)) ≡ has_src b
unfolding ext_at
src_told b = there (is_extended b) (ext_in (octet_at b 8)) (eqb (octet_at b 7 % 4) 0)

pub security_told : (b : List ℕ) → leb 2 (option_map_or (λ ext. ext.level) (ext_at b) 0) ≡ has_security b
unfolding ext_at
security_told b = level (is_extended b) (octet_at b 8)
