-- The text of a report.
use Rattle.std.specs.Prelude.{ℕ, List, [], ◌∷◌, ◌++◌, flat_map}
use Rattle.gp_script.specs.declared.report.Entry.{Entry}
use Rattle.gp_script.specs.Report.{text_of}

-- the line of an entry, with an LF
unfoldable pub line_of_entry : Entry → List ℕ
line_of_entry entry = text_of entry ++ 10 ∷ []

-- the text of a report
abbrev pub report_text : List Entry → List ℕ
report_text report = flat_map line_of_entry report
