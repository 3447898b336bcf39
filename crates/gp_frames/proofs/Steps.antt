-- One table of reasons behind the other.
use Rattle.gp_base.proofs.Tables.{first_of-append-some, first_of-append-none}

pub ruleset table_steps = (first_of-append-some, first_of-append-none)
