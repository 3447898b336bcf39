-- Steps and their octets, joined.
use Rattle.std.proofs.Common.{◌≡◌, ℕ, suc, ◌+◌, ◌≤◌, List, [], ◌∷◌, ◌++◌, length, take, drop, refl, sym, ◌∙◌, ap, arith, add_assoc, length-append, length-drop}
use Rattle.std.proofs.lemmas.List.{append-nil, take-append-le, drop-append-le, take_all, drop_all}
use Rattle.gp_disk.specs.declared.log.Step.{Step}
use Rattle.gp_disk.specs.declared.log.Step.TheVariants.{Write, Zero, Sync}
use Rattle.gp_disk.specs.History.{Wrote, Synced, written, zeroed}
use Rattle.gp_disk.specs.Step.{octets_of, events}

pub octets_of-append : (xs ys : List Step) → octets_of (xs ++ ys) ≡ octets_of xs + octets_of ys
unfolding octets_of
octets_of-append [] ys = omega arith
octets_of-append (Write at count stored ∷ xs) ys = omega (arith, octets_of-append xs ys)
octets_of-append (Zero at count stored ∷ xs) ys = octets_of-append xs ys
octets_of-append (Sync ∷ xs) ys = octets_of-append xs ys

pub octets_of_write : (at count stored : ℕ) → octets_of (Write at count stored ∷ []) ≡ count
unfolding octets_of
octets_of_write at count stored = omega arith

pub octets_of_zero : (at count stored : ℕ) → octets_of (Zero at count stored ∷ []) ≡ 0
unfolding octets_of
octets_of_zero at count stored = refl

pub octets_of_sync : octets_of (Sync ∷ []) ≡ 0
unfolding octets_of
octets_of_sync = refl

pub events-append : (xs ys : List Step) (os ps : List ℕ) → length os ≡ octets_of xs → events (xs ++ ys) (os ++ ps) ≡ events xs os ++ events ys ps
unfolding events octets_of
events-append [] ys [] ps e = refl
events-append [] ys (o ∷ os) ps e = absurd (omega arith)
events-append (Write at count stored ∷ xs) ys os ps e =
    let enough : count ≤ length os = omega arith in
    let rest : length (drop count os) ≡ octets_of xs = rw length-drop (omega arith) in
    rw (take-append-le count os ps enough, drop-append-le count os ps enough) (ap (λ r. Wrote (written at (take count os) stored) ∷ r) (events-append xs ys (drop count os) ps rest))
events-append (Zero at count stored ∷ xs) ys os ps e = ap (λ r. Wrote (zeroed at count stored) ∷ r) (events-append xs ys os ps e)
events-append (Sync ∷ xs) ys os ps e = ap (λ r. Synced ∷ r) (events-append xs ys os ps e)

-- one step more
pub events-write : (steps : List Step) (os octets : List ℕ) (at stored : ℕ) → length os ≡ octets_of steps → events (steps ++ Write at (length octets) stored ∷ []) (os ++ octets) ≡ events steps os ++ Wrote (written at octets stored) ∷ []
unfolding events
events-write steps os octets at stored e =
    rw (events-append steps (Write at (length octets) stored ∷ []) os octets e, take_all (length octets) octets (omega arith)) refl

pub events-zero : (steps : List Step) (os : List ℕ) (at count stored : ℕ) → length os ≡ octets_of steps → events (steps ++ Zero at count stored ∷ []) os ≡ events steps os ++ Wrote (zeroed at count stored) ∷ []
unfolding events
events-zero steps os at count stored e = ap (events (steps ++ Zero at count stored ∷ [])) (sym (append-nil os)) ∙ events-append steps (Zero at count stored ∷ []) os [] e

pub events-sync : (steps : List Step) (os : List ℕ) → length os ≡ octets_of steps → events (steps ++ Sync ∷ []) os ≡ events steps os ++ Synced ∷ []
unfolding events
events-sync steps os e = ap (events (steps ++ Sync ∷ [])) (sym (append-nil os)) ∙ events-append steps (Sync ∷ []) os [] e

pub length-events : (steps : List Step) (os : List ℕ) → length (events steps os) ≡ length steps
unfolding events
length-events [] os = refl
length-events (Write at count stored ∷ xs) os = ap suc (length-events xs (drop count os))
length-events (Zero at count stored ∷ xs) os = ap suc (length-events xs os)
length-events (Sync ∷ xs) os = ap suc (length-events xs os)

pub ruleset log_steps = (octets_of-append, octets_of_write, octets_of_zero, octets_of_sync, events-append, events-write, events-zero, events-sync, length-append)
