-- The header: the control octet by its bits, and the message by direction and number.
use Rattle.std.proofs.Common.{◌≡◌, ℕ, zero, suc, ◌/◌, ◌%◌, ◌<◌, ◌⊎◌, inl, inr, Bool, true, false, cond, not, eqb, Option, Some, None, refl, ap, ◌∙◌, arith}
use Rattle.std.proofs.lemmas.Bool.{and_parts, eqb-true}
use Rattle.gp_base.specs.Field.{has_bit}
use Rattle.gp_base.proofs.Flags.{flag_is}
use Rattle.gp_cluster.specs.declared.kind.Kind.{Kind}
use Rattle.gp_cluster.specs.declared.kind.Kind.TheVariants.{Notification, CommissioningNotice, Pairing, ProxyMode, Response}
use Rattle.gp_cluster.specs.Kind.{kind_of, is_from_sink, command_number}
use Rattle.gp_cluster.specs.Message.{control, has_header_form}

-- ---- the control octet

pub record SaysControl (octet : ℕ) (from_sink quiet : Bool) : Type 0 where
  pub form : has_header_form octet ≡ true
  pub from_sink_is : has_bit octet 8 ≡ from_sink
  pub quiet_is : has_bit octet 16 ≡ quiet

pub says_control : (from_sink quiet : Bool) → SaysControl (control from_sink quiet) from_sink quiet
says_control true true = record { form = refl; from_sink_is = refl; quiet_is = refl }
says_control true false = record { form = refl; from_sink_is = refl; quiet_is = refl }
says_control false true = record { form = refl; from_sink_is = refl; quiet_is = refl }
says_control false false = record { form = refl; from_sink_is = refl; quiet_is = refl }

clear_bit : (n : ℕ) → n < 2 → not (eqb n 1) ≡ true → n ≡ 0
clear_bit zero h e = refl
clear_bit (suc zero) h e = absurd cc
clear_bit (suc (suc n)) h e = absurd (omega arith)

pub control_again : (octet : ℕ) → octet < 256 → has_header_form octet ≡ true → control (has_bit octet 8) (has_bit octet 16) ≡ octet
control_again octet fits form =
    let s1 = and_parts _ (eqb (octet / 32) 0) form in
    let s2 = and_parts (eqb (octet % 4) 1) (not (has_bit octet 4)) s1.0 in
    let reserved : octet / 32 ≡ 0 = eqb-true _ _ s1.1 in
    let own : octet % 4 ≡ 1 = eqb-true _ _ s2.0 in
    let code : octet / 4 % 2 ≡ 0 = clear_bit (octet / 4 % 2) (omega arith) s2.1 in
    rw (flag_is (octet / 8 % 2) (omega arith), flag_is (octet / 16 % 2) (omega arith)) (omega (arith, reserved, own, code))

-- ---- direction and number

pick : {X : Type 0} (test : Bool) (x : X) (rest : Option X) (k : X) → cond test (Some x) rest ≡ Some k → ((test ≡ true) × (x ≡ k)) ⊎ (rest ≡ Some k)
pick true x rest k e = inl (refl, cc)
pick false x rest k e = inr e

pub record IsKind (from_sink : Bool) (command : ℕ) (k : Kind) : Type 0 where
  pub direction : from_sink ≡ is_from_sink k
  pub number : command ≡ command_number k

one_line : (from_sink : Bool) (command number : ℕ) (line k : Kind) → from_sink ≡ is_from_sink line → number ≡ command_number line → (eqb command number ≡ true) × (line ≡ k) → IsKind from_sink command k
one_line from_sink command number line k d n h = record { direction = d ∙ ap is_from_sink h.1; number = eqb-true _ _ h.0 ∙ n ∙ ap command_number h.1 }

pub is_kind : (from_sink : Bool) (command : ℕ) (k : Kind) → kind_of from_sink command ≡ Some k → IsKind from_sink command k
is_kind false command k e = elim (pick (eqb command 0) Notification _ k e) [
  | inl h ↦ one_line false command 0 Notification k refl refl h
  | inr f ↦ elim (pick (eqb command 4) CommissioningNotice None k f) [ inl h ↦ one_line false command 4 CommissioningNotice k refl refl h | inr g ↦ absurd cc ]
]
is_kind true command k e = elim (pick (eqb command 1) Pairing _ k e) [
  | inl h ↦ one_line true command 1 Pairing k refl refl h
  | inr f ↦ elim (pick (eqb command 2) ProxyMode _ k f) [
    | inl h ↦ one_line true command 2 ProxyMode k refl refl h
    | inr g ↦ elim (pick (eqb command 6) Response None k g) [ inl h ↦ one_line true command 6 Response k refl refl h | inr w ↦ absurd cc ]
  ]
]

pub kind_again : (k : Kind) → kind_of (is_from_sink k) (command_number k) ≡ Some k
kind_again Notification = refl
kind_again CommissioningNotice = refl
kind_again Pairing = refl
kind_again ProxyMode = refl
kind_again Response = refl
