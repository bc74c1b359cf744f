-- The lines of a fleet's parts, one after another.
use Rattle.std.proofs.Common.{◌≡◌, ◌∙◌, ℕ, ◌+◌, List, [], ◌∷◌, ◌++◌, ap, sym, length, map, take, drop}
use Rattle.std.specs.Prelude.{flat_map}
use Rattle.std.specs.List.{AllZip}
use Rattle.std.proofs.lemmas.List.{map-append, length-map, take-append-drop, drop-drop, at_drop_all}
use Rattle.std.proofs.lemmas.List.Elements.{filter_map-append}
use Rattle.hub_model.specs.HubState.{HubState}
use Rattle.hub_model.specs.Replies.{view, records_of}
use Rattle.wimo_report.specs.Report.{first_line, line_of, report_of}
use Rattle.wimo_report.specs.Parts.{AreStarts, IsPart}

-- the lines of the wagons from a place on are those of the part there, and those of the wagons behind it
split : (s : HubState) (from : ℕ) →
    map line_of (records_of s (drop from s.fleet)) ≡ map line_of (records_of s (take 256 (drop from s.fleet))) ++ map line_of (records_of s (drop (from + 256) s.fleet))
split s from =
    let here = take 256 (drop from s.fleet) in
    ap (λ wagons. map line_of (records_of s wagons)) (sym (take-append-drop 256 (drop from s.fleet)) ∙ ap (λ l. here ++ l) (drop-drop 256 from s.fleet)) ∙
    ap (map line_of) (filter_map-append _ here (drop (from + 256) s.fleet)) ∙ map-append line_of (records_of s here) (records_of s (drop (from + 256) s.fleet))

-- the parts from a place on have all lines of the wagons from there on
pub joined_parts : {S V : Type 0} (bytes : S → List ℕ) (items : V → List S) (s : HubState) (from : ℕ) (starts : List ℕ) (parts : List V) → AreStarts from (length s.fleet) starts →
    AllZip (λ start part. IsPart s start (map bytes (items part))) starts parts → map bytes (flat_map items parts) ≡ map line_of (records_of s (drop from s.fleet))
joined_parts bytes items s from [] [] h all = sym (at_drop_all (λ wagons. map line_of (records_of s wagons)) s.fleet from h)
joined_parts bytes items s from [] (p ∷ ps) h all = absurd all
joined_parts bytes items s from (start ∷ starts) [] h all = absurd all
joined_parts bytes items s from (start ∷ starts) (p ∷ ps) h all =
    let part = all.0 ∙ ap (λ k. map line_of (records_of s (take 256 (drop k s.fleet)))) h.0 in
    let rest = joined_parts bytes items s (from + 256) starts ps h.1 all.1 in
    map-append bytes (items p) (flat_map items ps) ∙ (λ i. part i ++ rest i) ∙ sym (split s from)

-- the lines of all wagons, behind the one that counts them
pub whole_report : {S : Type 0} (bytes : S → List ℕ) (s : HubState) (wagons : ℕ) (lines : List S) (all : List (List ℕ)) →
    map bytes lines ≡ map line_of (view s) → wagons ≡ length lines → all ≡ first_line wagons ∷ map bytes lines → all ≡ report_of (view s)
whole_report bytes s wagons lines all told counted is =
    let count : wagons ≡ length (view s) = counted ∙ sym (length-map lines bytes) ∙ ap length told ∙ length-map (view s) line_of in
    is ∙ ap (λ k. first_line k ∷ map bytes lines) count ∙ ap (λ l. first_line (length (view s)) ∷ l) told
