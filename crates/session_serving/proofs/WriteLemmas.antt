-- How what is written is put together.
use Rattle.session_serving.proofs.Common.{◌≡◌, ℕ, ◌-◌, ◌≤◌, Bool, true, false, List, [], ◌++◌, take, drop, length, refl, ap, ◌∙◌, sym, arith, subst, append_assoc, append-nil, length-drop, take-append-drop, take_all, Appends-nil, Appends-trans, false≢true, Output, Writes}

-- what is left once some of it was taken
pub pushed : (bytes front rest : List ℕ) (n : ℕ) → n ≤ length rest → bytes ≡ front ++ rest → bytes ≡ (front ++ take n rest) ++ take (length rest - n) (drop n rest)
pushed bytes front rest n le e =
    let all : length (drop n rest) ≤ length rest - n = omega (arith, length-drop n rest) in
    e ∙ ap (λ l. front ++ l) (sym (take-append-drop n rest)) ∙ sym (append_assoc front (take n rest) (drop n rest)) ∙ ap (λ l. (front ++ take n rest) ++ l) (sym (take_all (length rest - n) (drop n rest) all))

pub writes_none : (a : Output) (full : Bool) → Writes a a full []
writes_none a full = record { front = []; left = a.pending; moved = Appends-nil a.written; parts = sym (append-nil a.pending); all = λ _. refl }

pub writes-then : (a b c : Output) (full : Bool) (t u : List ℕ) → Writes a b true t → Writes b c full u → Writes a c full (t ++ u)
writes-then a b c full t u f g = record {
  front = f.front ++ g.front;
  left = g.left;
  moved = Appends-trans a.written b.written c.written f.front g.front f.moved g.moved;
  parts = append_assoc f.front g.front g.left
      ∙ ap (λ l. f.front ++ l) (g.parts ∙ ap (λ l. l ++ u) (f.all refl))
      ∙ sym (append_assoc f.front f.left u)
      ∙ ap (λ l. l ++ u) f.parts
      ∙ append_assoc a.pending t u;
  all = g.all;
}

-- nothing more is written
pub writes-part : (a b : Output) (full : Bool) (t u : List ℕ) → Writes a b full t → Writes a b false (t ++ u)
writes-part a b full t u f = record {
  front = f.front;
  left = f.left ++ u;
  moved = f.moved;
  parts = sym (append_assoc f.front f.left u) ∙ ap (λ l. l ++ u) f.parts ∙ append_assoc a.pending t u;
  all = λ e. absurd (false≢true e);
}

pub writes-line : (a b c : Output) (full : Bool) (t line u : List ℕ) → t ≡ line → Writes a b true t → Writes b c full u → Writes a c full (line ++ u)
writes-line a b c full t line u e f g = subst (λ l. Writes a c full (l ++ u)) e (writes-then a b c full t u f g)

pub writes-more : (a b c : Output) (full : Bool) (u : List ℕ) → Writes a b true [] → Writes b c full u → Writes a c full u
writes-more a b c full u f g = writes-then a b c full [] u f g

-- no more is written, though there was more
pub writes-fails : (a b : Output) (u : List ℕ) → Writes a b false [] → Writes a b false u
writes-fails a b u f = writes-part a b false [] u f

pub writes-line-fails : (a b : Output) (t line u : List ℕ) → t ≡ line → Writes a b false t → Writes a b false (line ++ u)
writes-line-fails a b t line u e f = subst (λ l. Writes a b false (l ++ u)) e (writes-part a b false t u f)
