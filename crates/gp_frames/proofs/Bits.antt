-- The two control octets: what their bits say, and that they are put together again.
use Rattle.std.proofs.Common.{◌≡◌, ℕ, zero, suc, ◌+◌, ◌*◌, ◌/◌, ◌%◌, ◌<◌, Bool, true, false, eqb, ltb, leb, refl, arith}
use Rattle.gp_base.specs.Field.{flag, has_bit}
use Rattle.gp_base.proofs.Flags.{flag_is}
use Rattle.gp_frames.specs.declared.frame.Ext.{Ext}
use Rattle.gp_frames.specs.Frame.{extension}
use Rattle.gp_frames.specs.Reading.{ext_in}

-- ---- a flag as a bit

pub flag-lt : (a : Bool) → flag a < 2
flag-lt false = omega arith
flag-lt true = omega arith

bit_is : (n : ℕ) (a : Bool) → n ≡ flag a → eqb n 1 ≡ a
bit_is n false e = rw e refl
bit_is n true e = rw e refl

-- a level is secured from 2 on, which is above 1
pub same_test : (n : ℕ) → leb 2 n ≡ ltb 1 n
same_test zero = refl
same_test (suc zero) = refl
same_test (suc (suc n)) = refl

-- ---- the NWK frame control

abbrev pub control_octet : Bool → Bool → Bool → ℕ
control_octet maintenance auto extended = flag maintenance + 12 + 64 * flag auto + 128 * flag extended

pub record SaysControl (octet : ℕ) (maintenance auto extended : Bool) : Type 0 where
  pub kind : octet % 4 ≡ flag maintenance
  pub version : octet / 4 % 16 ≡ 3
  pub auto_is : has_bit octet 64 ≡ auto
  pub extended_is : has_bit octet 128 ≡ extended

pub says_control : (maintenance auto extended : Bool) → SaysControl (control_octet maintenance auto extended) maintenance auto extended
says_control true true true = record { kind = refl; version = refl; auto_is = refl; extended_is = refl }
says_control true true false = record { kind = refl; version = refl; auto_is = refl; extended_is = refl }
says_control true false true = record { kind = refl; version = refl; auto_is = refl; extended_is = refl }
says_control true false false = record { kind = refl; version = refl; auto_is = refl; extended_is = refl }
says_control false true true = record { kind = refl; version = refl; auto_is = refl; extended_is = refl }
says_control false true false = record { kind = refl; version = refl; auto_is = refl; extended_is = refl }
says_control false false true = record { kind = refl; version = refl; auto_is = refl; extended_is = refl }
says_control false false false = record { kind = refl; version = refl; auto_is = refl; extended_is = refl }

-- an octet with type 0 or 1 and version 3 is put together again from its bits
pub control_again : (octet : ℕ) → octet < 256 → octet % 4 < 2 → octet / 4 % 16 ≡ 3 → control_octet (eqb (octet % 4) 1) (has_bit octet 64) (has_bit octet 128) ≡ octet
control_again octet fits kind version =
    rw (flag_is (octet % 4) kind, flag_is (octet / 64 % 2) (omega arith), flag_is (octet / 128 % 2) (omega arith)) (omega arith)

-- ---- the extended NWK frame control

pub record SaysExtension (octet : ℕ) (ext : Ext) : Type 0 where
  pub application : octet % 8 ≡ 0
  pub level : octet / 8 % 4 ≡ ext.level
  pub individual : has_bit octet 32 ≡ ext.individual
  pub rx_after : has_bit octet 64 ≡ ext.rx_after
  pub to_device : has_bit octet 128 ≡ ext.to_device

pub says_extension : (ext : Ext) → ext.level < 4 → SaysExtension (extension ext) ext
says_extension ext small =
    let a = flag-lt ext.individual in
    let b = flag-lt ext.rx_after in
    let c = flag-lt ext.to_device in
    record {
      application = omega arith;
      level = omega arith;
      individual = bit_is _ ext.individual (omega arith);
      rx_after = bit_is _ ext.rx_after (omega arith);
      to_device = bit_is _ ext.to_device (omega arith);
    }

pub extension_again : (octet : ℕ) → octet < 256 → octet % 8 ≡ 0 → extension (ext_in octet) ≡ octet
extension_again octet fits app =
    rw (flag_is (octet / 32 % 2) (omega arith), flag_is (octet / 64 % 2) (omega arith), flag_is (octet / 128 % 2) (omega arith)) (omega arith)
