-- A source and an output in memory, each with its list of calls that are to fail.
use Rattle.std.specs.Prelude.{ℕ, ◌-◌, Bool, ◌||◌, ◌&&◌, ◌==◌, nat_lt, List, ◌++◌, length, drop, min}
use Rattle.std.specs.List.{list_any}
use Rattle.gp_base.specs.Outside.{one_more}

-- a source: the octets that are left; the most that one read gives; the calls that are to fail, counted
-- from 0; the calls so far; the faults so far
pub record SourceState : Type 0 where
  pub left : List ℕ
  pub piece : ℕ
  pub failing : List ℕ
  pub calls : ℕ
  pub faults : ℕ

-- an output: the octets written; the most that there is room for; the most that one write takes; the calls
-- that are to fail, counted from 0; the calls so far; the faults so far
pub record OutState : Type 0 where
  pub written : List ℕ
  pub room : ℕ
  pub piece : ℕ
  pub failing : List ℕ
  pub calls : ℕ
  pub faults : ℕ

-- whether a call is one of those that are to fail
abbrev pub is_listed : List ℕ → ℕ → Bool
is_listed failing call = list_any (λ number. number == call) failing

-- how many octets a read into a buffer of this length gives
abbrev pub read_count : SourceState → ℕ → ℕ
read_count source length_of_buffer = min length_of_buffer (min source.piece (length source.left))

-- the source after a call that gave so many octets
abbrev pub after_read : SourceState → ℕ → SourceState
after_read source count = record source { left = drop count source.left; calls = one_more source.calls }

-- the source after a call that failed
abbrev pub after_failed_read : SourceState → SourceState
after_failed_read source = record source { calls = one_more source.calls; faults = one_more source.faults }

-- whether a write of so many octets fails: it is listed, or it finds the room full
abbrev pub is_refused : OutState → ℕ → Bool
is_refused out count = is_listed out.failing out.calls || (nat_lt 0 count && (length out.written == out.room))

-- how many of so many octets a write takes
abbrev pub write_count : OutState → ℕ → ℕ
write_count out count = min count (min out.piece (out.room - length out.written))

-- the output after a call that took these octets
abbrev pub after_write : OutState → List ℕ → OutState
after_write out octets = record out { written = out.written ++ octets; calls = one_more out.calls }

-- the output after a call that failed
abbrev pub after_failed_write : OutState → OutState
after_failed_write out = record out { calls = one_more out.calls; faults = one_more out.faults }
