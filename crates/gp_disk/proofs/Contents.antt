-- What happens to the content of a disk in memory, over lists alone.
use Rattle.std.proofs.Common.{◌≡◌, ℕ, ◌+◌, ◌≤◌, Bool, true, List, [], ◌∷◌, ◌++◌, length, take, drop, refl, sym, ◌∙◌, ap, arith, append_assoc}
use Rattle.std.specs.List.{list_all}
use Rattle.std.proofs.lemmas.List.{nil_from_length, append-nil}
use Rattle.std.proofs.lemmas.Bool.Decides.{nat_tests}
use Rattle.std.proofs.lemmas.List.Folds.{list_all-append}
use Rattle.gp_disk.specs.declared.log.Step.{Step}
use Rattle.gp_disk.specs.declared.log.Step.TheVariants.{Write, Zero, Sync}
use Rattle.gp_disk.specs.Disk.{put}
use Rattle.gp_disk.specs.History.{Range, Done, Wrote, Synced, Held, at_rest, happen, after_all, written, zeroed}
use Rattle.gp_disk.specs.Crash.{struck}
use Rattle.gp_disk.specs.Redone.{redone, ranges_of}
use Rattle.gp_disk.specs.Step.{events, is_write, is_within}
use Rattle.gp_disk.specs.Traced.{AllTraced}
use Rattle.gp_disk.proofs.Histories.{after_all-append, AllTraced-wrote, AllTraced-rest}
use Rattle.gp_disk.proofs.Ranges.{Outside-put}
use Rattle.gp_disk.proofs.Replays.{seen-after_all}

pub after_all-last : (held : Held) (xs : List Done) (x : Done) → after_all held (xs ++ x ∷ []) ≡ happen (after_all held xs) x
unfolding after_all
after_all-last held xs x = after_all-append held xs (x ∷ [])

pub after_all-none : (held : Held) → after_all held [] ≡ held
unfolding after_all
after_all-none held = refl

same_rest : (base seen : List ℕ) (pending : List Range) → base ≡ seen → pending ≡ [] → record { base = base; pending = pending; seen = seen } ≡ at_rest seen
same_rest base seen pending e f = rw (e, f) refl

-- a past that a good sync ends leaves an image with nothing pending
pub settled-at_rest : (held : Held) → held.base ≡ held.seen → length held.pending ≡ 0 → held ≡ at_rest held.seen
settled-at_rest held certain none = same_rest held.base held.seen held.pending certain (nil_from_length held.pending none)

-- the settled steps may be done for good
pub after_all-settled : (image : List ℕ) (xs ys : List Done) → (after_all (at_rest image) xs).base ≡ (after_all (at_rest image) xs).seen → length (after_all (at_rest image) xs).pending ≡ 0
    → after_all (at_rest image) (xs ++ ys) ≡ after_all (at_rest (redone image xs)) ys
after_all-settled image xs ys certain none =
    after_all-append (at_rest image) xs ys ∙ ap (λ held. after_all held ys) (settled-at_rest (after_all (at_rest image) xs) certain none ∙ ap at_rest (seen-after_all (at_rest image) xs))

-- writes alone leave what the last good sync left, and stand in order
pub base-writes : (held : Held) (steps : List Step) (octets : List ℕ) → list_all is_write steps ≡ true → (after_all held (events steps octets)).base ≡ held.base
unfolding after_all events
base-writes held [] octets writes = refl
base-writes held (Write at count stored ∷ steps) octets writes = base-writes (happen held (Wrote (written at (take count octets) stored))) steps (drop count octets) writes
base-writes held (Zero at count stored ∷ steps) octets writes = base-writes (happen held (Wrote (zeroed at count stored))) steps octets writes
base-writes held (Sync ∷ steps) octets writes = cc

pub pending-writes : (held : Held) (steps : List Step) (octets : List ℕ) → list_all is_write steps ≡ true → (after_all held (events steps octets)).pending ≡ held.pending ++ ranges_of (events steps octets)
unfolding after_all events ranges_of
pending-writes held [] octets writes = sym (append-nil held.pending)
pending-writes held (Write at count stored ∷ steps) octets writes =
    pending-writes (happen held (Wrote (written at (take count octets) stored))) steps (drop count octets) writes ∙ append_assoc held.pending (written at (take count octets) stored ∷ []) (ranges_of (events steps (drop count octets)))
pending-writes held (Zero at count stored ∷ steps) octets writes =
    pending-writes (happen held (Wrote (zeroed at count stored))) steps octets writes ∙ append_assoc held.pending (zeroed at count stored ∷ []) (ranges_of (events steps octets))
pending-writes held (Sync ∷ steps) octets writes = cc

-- one write more
pub reads-wrote : (held : Held) (xs ys new : List Done) (range : Range) (image after : List ℕ) → image ≡ (after_all held (xs ++ ys)).seen → new ≡ ys ++ Wrote range ∷ [] → after ≡ put range.at range.kept image
    → after ≡ (after_all held (xs ++ new)).seen
reads-wrote held xs ys new range image after reads more put_in =
    let e = after_all-last held (xs ++ ys) (Wrote range) in
    let assoc = append_assoc xs ys (Wrote range ∷ []) in
    rw (more, ← assoc, e) (put_in ∙ ap (put range.at range.kept) reads)

pub traced-wrote : (held : Held) (xs ys new : List Done) (range : Range) (image : List ℕ) → image ≡ (after_all held (xs ++ ys)).seen → new ≡ ys ++ Wrote range ∷ [] → AllTraced held (xs ++ ys)
    → range.at + length range.octets ≤ length image → length range.kept ≤ length range.octets → AllTraced held (xs ++ new)
traced-wrote held xs ys new range image reads more traced fits short =
    let assoc = append_assoc xs ys (Wrote range ∷ []) in
    rw (more, ← assoc) (AllTraced-wrote held (xs ++ ys) range traced (rw (← reads) (Outside-put range.at (length range.octets) range.kept image short fits)))

-- after a good sync nothing is pending
pub certain-synced : (held : Held) (xs : List Done) → (after_all held (xs ++ Synced ∷ [])).base ≡ (after_all held (xs ++ Synced ∷ [])).seen
certain-synced held xs = rw (after_all-last held xs Synced) refl

pub none_pending-synced : (held : Held) (xs : List Done) → length (after_all held (xs ++ Synced ∷ [])).pending ≡ 0
none_pending-synced held xs = rw (after_all-last held xs Synced) refl

pub reads-synced : (held : Held) (xs : List Done) → (after_all held (xs ++ Synced ∷ [])).seen ≡ (after_all held xs).seen
reads-synced held xs = rw (after_all-last held xs Synced) refl

pub list_all-push : (p : Step → Bool) (xs new : List Step) (x : Step) → new ≡ xs ++ x ∷ [] → list_all p xs ≡ true → p x ≡ true → list_all p new ≡ true
list_all-push p xs new x is all one = rw (is, list_all-append p xs (x ∷ []), all, one) refl

pub list_all-both : (p : Step → Bool) (xs ys new : List Step) → new ≡ xs ++ ys → list_all p xs ≡ true → list_all p ys ≡ true → list_all p new ≡ true
list_all-both p xs ys new is all both = rw (is, list_all-append p xs ys, all, both) refl

pub within-write : (size at count stored : ℕ) → at + count ≤ size → stored ≤ count → is_within size (Write at count stored) ≡ true
within-write size at count stored fits short = grind (arith, nat_tests)

pub within-zero : (size at count stored : ℕ) → at + count ≤ size → stored ≤ count → is_within size (Zero at count stored) ≡ true
within-zero size at count stored fits short = grind (arith, nat_tests)

pub reads-none : (image origin : List ℕ) (xs ys : List Done) → image ≡ origin → xs ≡ [] → ys ≡ [] → image ≡ (after_all (at_rest origin) (xs ++ ys)).seen
unfolding after_all
reads-none image origin xs ys same none none' = rw (none, none') same

pub traced-none : (held : Held) (xs ys : List Done) → xs ≡ [] → ys ≡ [] → AllTraced held (xs ++ ys)
unfolding AllTraced
traced-none held xs ys none none' = rw (none, none') tt

pub certain-none : (origin : List ℕ) (xs : List Done) → xs ≡ [] → (after_all (at_rest origin) xs).base ≡ (after_all (at_rest origin) xs).seen
unfolding after_all
certain-none origin xs none = rw none refl

pub none_pending-none : (origin : List ℕ) (xs : List Done) → xs ≡ [] → length (after_all (at_rest origin) xs).pending ≡ 0
unfolding after_all
none_pending-none origin xs none = rw none refl

-- the settled steps are done for good, and none of them stays
pub held-begun : (origin done : List ℕ) (xs ys none : List Done) → (after_all (at_rest origin) xs).base ≡ (after_all (at_rest origin) xs).seen → length (after_all (at_rest origin) xs).pending ≡ 0 → done ≡ redone origin xs → none ≡ []
    → after_all (at_rest done) (none ++ ys) ≡ after_all (at_rest origin) (xs ++ ys)
held-begun origin done xs ys none certain none_pending is empty = rw (empty, is) (sym (after_all-settled origin xs ys certain none_pending))

pub traced-begun : (origin done : List ℕ) (xs ys none : List Done) → (after_all (at_rest origin) xs).base ≡ (after_all (at_rest origin) xs).seen → length (after_all (at_rest origin) xs).pending ≡ 0 → done ≡ redone origin xs → none ≡ []
    → AllTraced (at_rest origin) (xs ++ ys) → AllTraced (at_rest done) (none ++ ys)
traced-begun origin done xs ys none certain none_pending is empty traced =
    let rest = AllTraced-rest (at_rest origin) xs ys traced in
    let e : after_all (at_rest origin) xs ≡ at_rest (redone origin xs) = settled-at_rest (after_all (at_rest origin) xs) certain none_pending ∙ ap at_rest (seen-after_all (at_rest origin) xs) in
    rw (empty, is) (rw e at rest)

-- what a good sync makes of the two logs
pub settled-synced : (xs ys both settled : List Done) → both ≡ xs ++ ys → settled ≡ both ++ Synced ∷ [] → settled ≡ (xs ++ ys) ++ Synced ∷ []
settled-synced xs ys both settled first then_sync = rw (← first) then_sync

pub history-synced : (xs ys both settled none : List Done) → both ≡ xs ++ ys → settled ≡ both ++ Synced ∷ [] → none ≡ [] → settled ++ none ≡ (xs ++ ys) ++ Synced ∷ []
history-synced xs ys both settled none first then_sync empty = rw empty (append-nil settled ∙ settled-synced xs ys both settled first then_sync)

-- what a crash makes of the two logs
pub struck-crashed : (way : ℕ) (origin done image : List ℕ) (xs : List Done) (steps : List Step) (octets : List ℕ) → (after_all (at_rest origin) xs).base ≡ (after_all (at_rest origin) xs).seen → length (after_all (at_rest origin) xs).pending ≡ 0
    → list_all is_write steps ≡ true → done ≡ redone origin xs → image ≡ struck way done (ranges_of (events steps octets))
    → image ≡ struck way (after_all (at_rest origin) (xs ++ events steps octets)).base (after_all (at_rest origin) (xs ++ events steps octets)).pending
struck-crashed way origin done image xs steps octets certain none_pending writes is struck_is =
    let held = after_all-settled origin xs (events steps octets) certain none_pending in
    let base = base-writes (at_rest (redone origin xs)) steps octets writes in
    let pending = pending-writes (at_rest (redone origin xs)) steps octets writes in
    rw (held, base, pending, ← is) struck_is
