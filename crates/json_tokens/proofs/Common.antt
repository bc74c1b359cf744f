-- What the proofs of this crate have in common: the names of other crates, of the standard library and of its own definitions.
pub use Rattle.std.specs.Cmp.Lexicographic.{slice_cmp}
pub use Rattle.std.specs.Float.{binary64, float_is_finite}
pub use Rattle.std.specs.Fmt.{digits_onto, digit_glyph}
unfoldable pub use Rattle.std.specs.Fmt.{digits}
pub use Rattle.std.specs.List.{prefix_len}
pub use Rattle.std.specs.Option.{option_or}
pub use Rattle.std.specs.Ordering.{nat_cmp, is_gt}
pub use Rattle.std.specs.Prelude.{◌&&◌, OnOk, IfOk, ⊤, slice_index, nat_lt, nat_le, SomeIff, IfSome}
pub use Rattle.std.specs.Str.Parse.{digits_value}
pub use Rattle.std.proofs.Common.{◌≡◌, ℕ, ◌+◌, ◌-◌, ◌<◌, ◌≤◌, Bool, true, false, cond, List, [], ◌∷◌, ◌++◌, length, take, get_or, Option, Some, None, option_map, option_and_then, bytes_eq, refl, sym, ap, ◌∙◌, arith, append-nil, true≢false, subst, unwrap_or, zero, suc, ◌/◌, ◌%◌, ◌^◌, ◌==◌, Result, Ok, Err, decimal, Ordering, Less, Equal, Greater, map, ◌*◌, not, eqb, ltb, ◌||◌, ◌⊎◌, inl, inr, drop, ap₂, append_assoc, take-append-drop, MatchOption, IfNone, is_some, IsSome, add-one, if◌then◌else◌, ℤ, Float, length-append, length-take-le, rules, take_all, Bor, IsUtf8}
pub use Rattle.std.proofs.Math.Nat.{one-le-pow, pow-suc}
pub use Rattle.std.proofs.Math.Seq.{take-suc, take-append_seam}
pub use Rattle.std.proofs.lemmas.Bool.{and_parts, eqb-true, false≢true, and_from, cases_lt}
pub use Rattle.std.proofs.lemmas.Bool.Decides.{nat_tests, Decides-ltb}
pub use Rattle.std.proofs.lemmas.Fmt.{decimal_is_IsNumeral, decimal_is_IsNumeral_wide, length-decimal-le, decimal_digit, decimal_step}
pub use Rattle.std.proofs.lemmas.Grind.{common_steps}
pub use Rattle.std.proofs.lemmas.List.{take_more, drop_more, length-map, drop_all, map_push, take-append-le, drop-append-le, take_rest, length-drop, length-take-le, take-append-drop}
pub use Rattle.std.proofs.lemmas.List.Elements.{All-nil, All-cons, All-head, All-tail}
pub use Rattle.std.proofs.lemmas.Simd.{length-chunk, mask_l-mod, trailing_mask_l, run_in_chunk_le, run_in_chunk_fails, none_from_empty_mask, take_more_put_chunk, length-put_chunk, zip2_of_maps, zip2_splat}
pub use Rattle.std.proofs.lemmas.Slice.Eq.{bytes_eq-Decides}
pub use Rattle.std.proofs.lemmas.Str.{IsCharBoundary-after_ascii}
pub use Rattle.serde_json.specs.Data.{Members, no_members, object, put, unsigned, negative, float, Data, null, boolean, number, string, array, Items, no_items, item, member, Num}
pub use Rattle.serde_json.specs.Find.{get_member, as_array, as_u64}
pub use Rattle.json.specs.Filled.{Placed}
pub use Rattle.json.specs.Find.{BeginsWith, InItems, InMembers, NextItem, Finds}
pub use Rattle.json.specs.Lex.{tokens}
unfoldable pub use Rattle.json.specs.Lex.{lex, punctuate}
pub use Rattle.json.specs.Print.{escape, print, separator, token_text, quoted, IsNumber, IsPrintable, ends}
unfoldable pub use Rattle.json.specs.Print.{print_from, ArePrintable}
pub use Rattle.serde_json.specs.Read.{of_json, of_members, read, max_depth, of_items, number_from, float_of, is_integer}
unfoldable pub use Rattle.serde_json.specs.Read.{number_of}
pub use Rattle.json.specs.Reads.{token_of, Yields}
pub use Rattle.json.specs.Tape.{node_token}
pub use Rattle.fast_float.specs.Text.{Parts, scan, digits_of, nearest, with_sign, IsInteger}
pub use Rattle.json.specs.Token.{Token, begin_object}
pub use Rattle.json.specs.Tree.{json_tokens, items_tokens, members_tokens}
pub use Rattle.serde_json.specs.View.{items_of}
pub use Rattle.serde_json.specs.Written.{outline, items_outline, members_outline, compact_text}
pub use Rattle.json.specs.Written.{Written}
pub use Rattle.json.specs.declared.tape.Node.{Node}
pub use Rattle.json.proofs.Found.{not_found, Some_inj, opened, items_close, items_go_on}
pub use Rattle.json.proofs.Grammar.{closed_array}
pub use Rattle.json.proofs.Nesting.{value-depth}
pub use Rattle.serde_json.proofs.Numbers.{number_of-decimal}
pub use Rattle.json.proofs.Printed.Decimals.{IsNumber-decimal}
pub use Rattle.json.proofs.Printed.Places.{Placed-ends}
pub use Rattle.json.proofs.Printed.Strings.{escape_byte_plain}
pub use Rattle.json.proofs.Printed.Tokens.{tokens-print, print_from_push, ends_push, ArePrintable-push}
pub use Rattle.json.proofs.Printed.Trees.{value-json_tokens, ArePrintable-json_tokens}
pub use Rattle.serde_json.proofs.Texts.{print-outline}
pub use Rattle.json.proofs.Unique.Spelling.{value-json_tokens_back, tokens-document}
pub use Rattle.serde_json.proofs.Views.{get_member-put, get_member-put_other}
pub use Rattle.json_tokens.specs.Flat.{Member, scalar_token, scalar_json, scalar_data, IsSmallScalar, HaveSmallNumbers, member_tokens, member_json, put_all, flat_data, under, last_under}
pub use Rattle.json_tokens.specs.FlatText.{PlainUpTo, member_text, members_text, flat_tokens, is_stop}
pub use Rattle.json_tokens.specs.SmallNumbers.{HasSmallNumbers, ItemsHaveSmallNumbers, MembersHaveSmallNumbers}
pub use Rattle.json_tokens.specs.Tapes.{first_items, tape_data, tape_items, IsSimpleAt}
unfoldable pub use Rattle.json_tokens.specs.Tapes.{first_data}
pub use Rattle.json_tokens.specs.Texts.{IsSmallToken, AreSmall, Fields, members, fields, field_tokens, item_tokens, with_field_tokens, Adds, AddsData, AddsFields}
pub use Rattle.json_tokens.specs.Writing.{is_plain_letter, is_plain, written, IsWriting, CanBePut}
pub use Rattle.json_tokens.specs.declared.flat.Scalar.{Scalar}
pub use Rattle.json_tokens.specs.declared.flat.Scalar.TheVariants.{Text, Whole}
pub use Rattle.json_tokens.specs.declared.writer.Writer.TheInside.{Inside}
