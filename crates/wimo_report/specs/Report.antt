-- The report of the operational database (4.2.11): a line for each wagon, in columns with a blank between them.
use Rattle.std.specs.Prelude.{ℕ, ◌-◌, List, [], ◌∷◌, ◌++◌, length, map, Option, Some, None, codes, decimal, replicate}
use Rattle.std.specs.List.{join_with_byte}
use Rattle.wagon_number.specs.Digits.{text_of}
use Rattle.taf_moment.specs.Calendar.{moment_text}
use Rattle.taf_codes.specs.declared.code.Place.{Place}
use Rattle.taf_codes.specs.declared.code.Railway.{Railway}
use Rattle.taf_codes.specs.declared.code.UnitCode.{UnitCode}
use Rattle.taf_messages.specs.declared.record.Record.{Record}
use Rattle.taf_messages.specs.Details.{stage_name, status_name}

-- a column of nine, filled with blanks behind the text or before it
abbrev pub left_aligned : List ℕ → List ℕ
left_aligned text = text ++ replicate (9 - length text) 32

abbrev pub right_aligned : List ℕ → List ℕ
right_aligned text = replicate (9 - length text) 32 ++ text

-- what is not known is shown by hyphens
abbrev pub railway_column : Option Railway → List ℕ
railway_column None = codes "----"
railway_column (Some railway) = railway

abbrev pub place_column : Option Place → List ℕ
place_column None = codes "-------"
place_column (Some place) = place

abbrev pub time_column : Option ℕ → List ℕ
time_column None = codes "-----------------"
time_column (Some at) = moment_text at

-- the minutes from the commitment to the time at which the wagon is expected, none where this is not later (4.2.6)
abbrev pub minutes_late : Option ℕ → ℕ → ℕ
minutes_late None commit = 0
minutes_late (Some eta) commit = eta - commit

-- the wagon, the railways in charge of it, and the leg
unfoldable pub first_columns : Record → List (List ℕ)
first_columns r = text_of r.wagon ∷ r.lead ∷ railway_column r.responsible ∷ decimal r.leg ∷ []

-- how far its journey has come, where it is, when it is expected, how late that is, and its status
unfoldable pub last_columns : Record → List (List ℕ)
last_columns r =
    left_aligned (stage_name r.stage) ∷ place_column r.place ∷ time_column r.eta ∷ right_aligned (decimal (minutes_late r.eta r.commit)) ∷
    status_name r.status ∷ []

-- the intermodal units with commas between them, after a blank
abbrev pub units_text : List UnitCode → List ℕ
units_text [] = []
units_text (unit ∷ units) = 32 ∷ join_with_byte 44 (unit ∷ units)

-- the line of a wagon
unfoldable pub line_of : Record → List ℕ
line_of r = join_with_byte 32 (first_columns r ++ last_columns r) ++ units_text r.units

abbrev pub first_line : ℕ → List ℕ
first_line wagons = codes "wagons " ++ decimal wagons

-- the lines of the report
abbrev pub report_of : List Record → List (List ℕ)
report_of records = first_line (length records) ∷ map line_of records
