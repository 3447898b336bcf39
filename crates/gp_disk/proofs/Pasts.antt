-- A disk's past that goes on: what a crash may leave then.
use Rattle.std.proofs.Common.{◌≡◌, ℕ, ◌≤◌, List, [], length, Some, sym, ◌∙◌, ap, subst, arith, length-append}
use Rattle.gp_disk.specs.Disk.{Same, Follows, Grows, Only}
use Rattle.gp_disk.specs.History.{Range, Done, Wrote, Synced, Held, Past, at_rest, happen, held_after, lived, Replaced, MayLeave, PastLeft}
use Rattle.gp_disk.specs.Traced.{LeftSince-now}
use Rattle.gp_disk.specs.declared.content.Content.{Content}
use Rattle.gp_disk.specs.Content.{past_of}
use Rattle.gp_disk.proofs.Steps.{length-events}
use Rattle.gp_disk.proofs.Contents.{after_all-last, after_all-none}
use Rattle.gp_disk.proofs.Histories.{LeftSince-begun, LeftSince-kept, LeftSince-last, Replaced-last}

pub held-lived : (past new : Past) (x : Done) → new ≡ lived past x → held_after new ≡ happen (held_after past) x
held-lived past new x is = ap held_after is ∙ after_all-last (at_rest past.origin) past.history x

pub follows-wrote : (past new : Past) (range : Range) → new ≡ lived past (Wrote range) → Follows range.at (length range.octets) (MayLeave (held_after past)) (MayLeave (held_after new))
follows-wrote past new range is c left =
    let held = held-lived past new (Wrote range) is in
    let left_now = subst (λ (h : Held). MayLeave h c) held left in
    Replaced-last (held_after past).base (held_after past).pending range c left_now

pub grows-lived : (past new : Past) (x : Done) → new ≡ lived past x → past.begun ≤ length past.history → Grows (PastLeft past) (PastLeft new) (MayLeave (held_after new))
grows-lived past new x is before =
    subst (λ (p : Past). Grows (PastLeft past) (PastLeft p) (MayLeave (held_after p))) (sym is) record {
      kept = λ c left. LeftSince-kept past.begun (at_rest past.origin) past.history x c before left;
      none = λ c left. LeftSince-last past.begun (at_rest past.origin) past.history x c before left;
    }

-- where all has happened before the last `begin`
pub same-begun : (past : Past) → length past.history ≤ past.begun → Same (MayLeave (held_after past)) (PastLeft past)
same-begun past before = record {
  kept = λ c now. LeftSince-now past.begun (at_rest past.origin) past.history c now;
  none = λ c left. LeftSince-begun past.begun (at_rest past.origin) past.history c before left;
}

-- an image with nothing pending is all that a crash leaves
pub only-at_rest : (held : Held) (image : List ℕ) → held ≡ at_rest image → Only (Some image) (MayLeave held)
unfolding Replaced
only-at_rest held image is c left = let left_now = subst (λ (h : Held). MayLeave h c) is left in ap Some (sym left_now)

pub same-refl : (images : List ℕ → Type 0) → Same images images
same-refl images = record { kept = λ c left. left; none = λ c left. left }

pub begun_before : (content : Content) → content.begun ≤ length (past_of content).history
begun_before content = rw (length-append, length-events content.settled.steps.items content.settled.octets.items, length-events content.pending.steps.items content.pending.octets.items) content.begun_before

pub certain_synced : (old new : Content) → new.image ≡ old.image → past_of new ≡ lived (past_of old) Synced → Only (Some new.image.items) (MayLeave (held_after (past_of new)))
certain_synced old new same is =
    only-at_rest (held_after (past_of new)) new.image.items (held-lived (past_of old) (past_of new) Synced is ∙ ap at_rest (sym old.reads ∙ ap (λ image. image.items) (sym same)))

-- a past in which nothing has happened
pub held-none : (past : Past) (image : List ℕ) → past ≡ record { origin = image; history = []; begun = 0 } → held_after past ≡ at_rest image
held-none past image is = ap held_after is ∙ after_all-none (at_rest image)

pub same-none : (past : Past) (image : List ℕ) → past ≡ record { origin = image; history = []; begun = 0 } → Same (MayLeave (held_after past)) (PastLeft past)
same-none past image is = same-begun past (let e = ap (λ (p : Past). length p.history) is in omega arith)
