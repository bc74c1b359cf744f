-- The page of a finished run: which wagons it shows, and the bytes of its file (4.2.11).
use Rattle.std.specs.Prelude.{◌≢◌, ℕ, ◌==◌, List, [], ◌∷◌, ◌++◌, map, flat_map, filter_map, codes, if◌then◌else◌, Option, Some, None}
use Rattle.std.specs.List.{AllByRecursion}
use Rattle.serde_json.specs.Written.{compact_text}
use Rattle.taf_codes.specs.declared.code.Railway.{Railway}
use Rattle.taf_messages.specs.declared.reply.Reply.TheVariants.{Many}
use Rattle.call_lines.specs.Lines.{reply_text}
use Rattle.reply_writer.specs.LegShapes.{fleet_legs_data}
use Rattle.hub_model.specs.HubState.{HubState}
use Rattle.hub_answers.specs.Shown.{shown_wagon, shown_to}
use Rattle.hub_answers.specs.declared.shown.ShownWagon.{ShownWagon}
use Rattle.board_texts.specs.Lines.{as_line, legs_of, wimo_of}
use Rattle.board_page.specs.declared.page.TheConstants.{HEAD, TAIL}

-- ---- wagons

-- all planned wagons, in the order of their first plans, each with its record and its legs
unfoldable pub all_planned : HubState → List ShownWagon
all_planned s = filter_map (λ w. shown_wagon (s.journey w) w) s.fleet

-- of these what the railway may see; with no railway all
abbrev pub seen_by : HubState → Option Railway → List ShownWagon
seen_by s None = all_planned s
seen_by s (Some by) = shown_to s by s.fleet

-- ---- elements

-- an escape of JSON for `<`
abbrev pub escaped_byte : ℕ → List ℕ
escaped_byte b = if b == 60 then codes "\\u003c" else b ∷ []

abbrev pub escaped : List ℕ → List ℕ
escaped text = flat_map escaped_byte text

-- the attribute that names the railway
abbrev pub owner_of : Option Railway → List ℕ
owner_of None = []
owner_of (Some by) = codes " data-railway=\"" ++ by ++ codes "\""

-- an element of this name that has a line of JSON, and is run by no browser
unfoldable pub element : List ℕ → Option Railway → List ℕ → List ℕ
element name by line =
    codes "<script type=\"application/json\" id=\"" ++ name ++ codes "\"" ++ owner_of by ++ codes ">" ++ escaped line ++ codes "</script>\n"

-- a text that is escaped has no `<`, with which the end of its element would begin
abbrev pub NoTextEndsItsElement : Type 0
NoTextEndsItsElement = (text : List ℕ) → AllByRecursion (λ b. b ≢ 60) (escaped text)

-- ---- the file

abbrev pub legs_line : List ShownWagon → List ℕ
legs_line seen = as_line (compact_text (fleet_legs_data (map legs_of seen)))

abbrev pub records_line : List ShownWagon → List ℕ
records_line seen = as_line (reply_text (Many (map wimo_of seen)))

-- the parts of a page, with the legs and the records of these wagons between them
unfoldable pub file_with : List ℕ → List ℕ → Option Railway → List ShownWagon → List ℕ
file_with head tail by seen =
    head ++ element (codes "legs") by (legs_line seen) ++ element (codes "records") by (records_line seen) ++ tail

abbrev pub file_of : HubState → Option Railway → List ℕ
file_of s by = file_with HEAD.now TAIL.now by (seen_by s by)
