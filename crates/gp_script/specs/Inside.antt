-- What private functions say. No public clause cites this file.
use Rattle.gp_script.specs.declared.report.Report.{Report}
use Rattle.gp_script.specs.declared.report.Report.TheVariants.{Armed, Cut, Halted, Off, Up, Dark, Running}

-- a report of a sink's power
abbrev pub IsOfPower : Report → Type 0
IsOfPower Armed = Unit {0}
IsOfPower Cut = Unit {0}
IsOfPower Halted = Unit {0}
IsOfPower Off = Unit {0}
IsOfPower (Up rows) = Unit {0}
IsOfPower Dark = Unit {0}
IsOfPower Running = Unit {0}
IsOfPower other = ⊥
