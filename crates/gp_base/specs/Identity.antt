-- Identifiers of Green Power (Zigbee PRO Green Power, A.1.4.1.4, A.3.3.2.2, A.3.6.1.2.1, A.3.7.1.2).
use Rattle.std.specs.Prelude.{ℕ, ◌-◌, ◌/◌, ◌%◌, Bool, true, false, ◌&&◌, ◌==◌, nat_le, if◌then◌else◌, bit_xor}
use Rattle.gp_base.specs.declared.identity.KeyKind.{KeyKind}
use Rattle.gp_base.specs.declared.identity.KeyKind.TheVariants.{Nwk, Group, DerivedGroup, OutOfBox, DerivedIndividual}
use Rattle.gp_base.specs.declared.identity.Level.{Level}
use Rattle.gp_base.specs.declared.identity.Level.TheVariants.{Two, Three}
use Rattle.gp_base.specs.declared.identity.Mode.{Mode}
use Rattle.gp_base.specs.declared.identity.Mode.TheVariants.{Derived, Commissioned, Unicast}

-- the number of a kind of key
abbrev pub kind_number : KeyKind → ℕ
kind_number Nwk = 1
kind_number Group = 2
kind_number DerivedGroup = 3
kind_number OutOfBox = 4
kind_number DerivedIndividual = 7

-- whether one device alone has a key of this kind
abbrev pub is_individual : KeyKind → Bool
is_individual Nwk = false
is_individual Group = false
is_individual DerivedGroup = false
is_individual OutOfBox = true
is_individual DerivedIndividual = true

-- the number of a security level
abbrev pub level_number : Level → ℕ
level_number Two = 2
level_number Three = 3

-- the number of a mode of tunnelling
abbrev pub mode_number : Mode → ℕ
mode_number Derived = 1
mode_number Commissioned = 2
mode_number Unicast = 3

-- the addresses of groups: 0x0001 to 0xFFF7
abbrev pub is_group : ℕ → Bool
is_group address = nat_le 1 address && nat_le address 0xFFF7

-- the group of a SrcID: its low half; else its halves mixed; else a number that stands for the low half
abbrev pub derived_group_of : ℕ → ℕ
derived_group_of source =
    let low = source % 65536 in
    let mixed = bit_xor (source % 65536) (source / 65536) in
    if is_group low then low else if is_group mixed then mixed else if low == 0 then 7 else low - 8
