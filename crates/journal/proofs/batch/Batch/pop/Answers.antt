use Rattle.std.proofs.Common.{◌≡◌, ◌-◌, ◌≤◌, List, ℕ, [], ◌∷◌, ◌++◌, length, take, ap, sym, ◌∙◌, subst, arith}
use Rattle.std.proofs.lemmas.List.{length-take}
use Rattle.journal.specs.Lines.{IsLinesText}
use Rattle.journal.proofs.LineLemmas.{WithoutLast, without_last, lines_kept, recovered_of_text}
use Rattle.journal.proofs.batch.Batch.pop.Goals as goal

cut_text : (c : goal.After-truncate) → WithoutLast c.self.inside.text.items c.args.self.now c.args.len
cut_text c = without_last c.self.inside.text.items c.args.self.now c.args.len (subst (IsLinesText c.self.inside.text.items) c.self.view_is c.self.invariant.spells) c.requires

pub overflow_sub-end : goal.overflow_sub-end
overflow_sub-end c =
    let w = without_last c.self.inside.text.items c.args.self.now c.args.len (subst (IsLinesText c.self.inside.text.items) c.self.view_is c.self.invariant.spells) c.requires in
    omega (arith, w.room)

pub overflow_sub-end-2 : goal.overflow_sub-end-2
overflow_sub-end-2 c =
    let w = without_last c.self.inside.text.items c.args.self.now c.args.len (subst (IsLinesText c.self.inside.text.items) c.self.view_is c.self.invariant.spells) c.requires in
    omega (arith, w.room)

left : (c : goal.After-truncate) → IsLinesText c.truncate.new.self.items (cut_text c).front
left c =
    let text = c.self.inside.text.items in
    let place : c.len.result - c.args.len - 1 ≡ length text - c.args.len - 1 = omega arith in
    subst (λ (t : List ℕ). IsLinesText t (cut_text c).front) (sym (c.truncate.ensures.items ∙ ap (λ n. take n text) place)) (cut_text c).left

pub invariant_of-self : goal.invariant_of-self
invariant_of-self c = record {
  spells = lines_kept _ _ (left c);
  room = λ some.
      let text = c.self.inside.text.items in
      let shorter : length c.truncate.new.self.items ≤ length text = omega (arith, ap length c.truncate.ensures.items, length-take (c.len.result - c.args.len - 1) text) in
      let was = c.self.invariant.room (omega (arith, some, shorter)) in
      omega (arith, was, shorter, c.truncate.ensures.capacity);
}

pub returns : goal.returns
returns c = ((cut_text c).last, (cut_text c).split ∙ ap (λ (l : List (List ℕ)). l ++ (cut_text c).last ∷ []) (sym (recovered_of_text _ _ (left c))))
