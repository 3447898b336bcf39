-- A step of a world is a step of the ideal network.
use Rattle.std.proofs.Common.{◌≡◌, ◌≢◌, ◌≤◌, ◌*◌, ℕ, Bool, true, false, List, [], ◌∷◌, ◌++◌, Option, Some, None, Result, Ok, Err, refl, sym, ◌∙◌, ap, subst, append-nil}
use Rattle.gp_script.specs.declared.report.Entry.{Entry}
use Rattle.gp_script.specs.declared.script.Event.{Event}
use Rattle.gp_world.specs.Run.{bit_taken}
use Rattle.gp_world.specs.Step.{step}
use Rattle.gp_world.specs.World as ideal
use Rattle.gp_world.specs.World.{injected}
use Rattle.gp_net.specs.declared.net.Net.{Net}
use Rattle.gp_net.specs.declared.node.Node.{Node}
use Rattle.gp_telling.specs.declared.telling.Telling.{Telling}
use Rattle.gp_net.specs.Steady.{AreFew, IsSteadyNet}
use Rattle.gp_net.specs.Nodes.{AreNodesOf}
use Rattle.gp_net.specs.declared.world.World.{World}
use Rattle.gp_net.specs.World.{IsSame, Stands, Steps, bits_of}
use Rattle.gp_net.specs.Inside.{Went, Told}
use Rattle.gp_net.specs.Made.{bit_told}
use Rattle.gp_net.specs.Net.{IsNetOf, IsSameNet}

pub same_stands : (old new : Net) (model : ideal.World) → IsSameNet old new → IsNetOf old model → IsNetOf new model
same_stands old new model s h = record {
  air = s.air ∙ h.air;
  sent = s.sent ∙ h.sent;
  nodes = subst (λ (nodes : List (List ℕ × Node)). AreNodesOf nodes model.nodes) (sym s.nodes) h.nodes;
}

pub same_steady : (old new : Net) (line : ℕ) → IsSameNet old new → IsSteadyNet line old → IsSteadyNet line new
same_steady old new line s h = record {
  sent = subst (λ (n : ℕ). n ≤ line) (sym s.sent) h.sent;
  nodes = subst (λ (nodes : List (List ℕ × Node)). AreFew (2 * line) nodes) (sym s.nodes) h.nodes;
}

pub kept_stands : (old new : World) (model : ideal.World) → IsSame old new → Stands old model → Stands new model
kept_stands old new model k h = same_stands old.net new.net model k.net h

pub nothing_told : (telling : Telling) → Told [] telling telling
nothing_told telling = record { line = refl; entries = sym (append-nil telling.entries.items) }

-- a line that does nothing
pub nothing_went : (net : Net) (model : ideal.World) (telling : Telling) → IsNetOf net model → Went (λ bit. Ok (record { world = model; told = []; choice = ideal.Fixed })) net telling telling None
nothing_went net model telling h = record {
  bit = false;
  next = record { world = model; told = []; choice = ideal.Fixed };
  steps = refl;
  takes = refl;
  right = tt;
  exact = λ some other is stands. absurd cc;
  stands = h;
  told = nothing_told telling;
}

-- octets come on the air
pub injected_went : (net : Net) (model : ideal.World) (octets : List ℕ) (before after : Telling) → IsNetOf net (injected model before.line octets).world → Told (injected model before.line octets).told before after
    → Went (λ bit. Ok (injected model before.line octets)) net before after None
unfolding injected
injected_went net model octets before after h t = record {
  bit = false;
  next = injected model before.line octets;
  steps = refl;
  takes = refl;
  right = tt;
  exact = λ some other is stands. absurd cc;
  stands = h;
  told = t;
}

-- ---- a line that went through, and one that didn't

-- the bits of a world behind a line
abbrev pub with_taken : List Bool → Option Bool → List Bool
with_taken bits None = bits
with_taken bits (Some bit) = bits ++ bit ∷ []

taken_behind : (bits : List Bool) (c : ideal.Choice) (bit : Bool) → with_taken bits (bit_told c bit) ≡ bits ++ bit_taken c bit
taken_behind bits ideal.Fixed bit = sym (append-nil bits)
taken_behind bits ideal.Free bit = refl
taken_behind bits ideal.Made bit = refl

told_no : (c : ideal.Choice) (bit : Bool) → c ≢ ideal.Fixed → bit ≡ false → bit_told c bit ≡ Some false
told_no ideal.Fixed bit n e = absurd (n refl)
told_no ideal.Free bit n e = ap Some e
told_no ideal.Made bit n e = ap Some e

pub went_through : (model : ideal.World) (event : Event) (old new : World) (net : Net) (before after : Telling) (took : Option Bool) → before.entries.items ≡ [] → Went (λ bit. step model before.line event bit) net before after took
    → ((other : ideal.World) → IsNetOf net other → Stands new other) → ((other : ideal.World) → Stands new other → IsNetOf net other) → bits_of new ≡ with_taken (bits_of old) took
    → Steps model before.line event old new after.entries.items
went_through model event old new net before after took e w to from bits = record {
  bit = w.bit;
  next = w.next;
  steps = w.steps;
  right = w.right;
  takes = bits ∙ ap (with_taken (bits_of old)) w.takes ∙ taken_behind (bits_of old) w.next.choice w.bit;
  exact = λ free is_no other is stands. w.exact (w.takes ∙ told_no w.next.choice w.bit free is_no) other is (from other.world stands);
  told_are = w.told.entries ∙ ap (λ (items : List Entry). items ++ w.next.told) e;
  stands = to w.next.world w.stands;
}
