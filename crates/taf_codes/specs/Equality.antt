-- Tests that find exactly the equal values.
use Rattle.std.specs.Prelude.{◌≡◌, nat_eq, Bool, true, ◌&&◌, List, [], ◌∷◌, Option, Some, None, bytes_eq, refl, ◌↔◌, IsTrue}
use Rattle.std.specs.Option.{option_eq}
use Rattle.std.specs.Cmp.{IsEquivalence}
use Rattle.std.specs.Cmp.Lexicographic.{pointwise}
use Rattle.std.proofs.Common.{ap, sym, ◌∙◌, subst, inl, inr}
use Rattle.std.proofs.lemmas.Bool.{and_parts, cases_Bool, eqb-true, eq-eqb, false≢true}
use Rattle.std.proofs.lemmas.Slice.Eq.{bytes_eq-Decides}

-- the test holds of equal values and of no others
pub record IsEquality {A : Type 0} (same : A → A → Bool) : Type 0 where
  pub equal : (x y : A) → same x y ≡ true → x ≡ y
  pub itself : (x : A) → same x x ≡ true

-- such a test is an equivalence
module _ {A : Type 0} (same : A → A → Bool) (h : IsEquality same) where
  either_way : (x y : A) → same x y ≡ same y x
  either_way x y = elim (cases_Bool (same x y)) [
    | inl t ↦ let e = h.equal x y t in ap (λ v. same v y) e ∙ ap (λ v. same y v) (sym e)
    | inr f ↦ elim (cases_Bool (same y x)) [
      | inl t ↦ absurd (false≢true (sym f ∙ ap (λ v. same v y) (sym (h.equal y x t)) ∙ h.itself y))
      | inr g ↦ f ∙ sym g
    ]
  ]

  pub is_equivalence : IsEquivalence same
  is_equivalence = record {
    refl = h.itself;
    symm = either_way;
    congr = λ x y z t. ap (λ v. same v z) (h.equal x y t);
  }

pub numbers : IsEquality nat_eq
numbers = record { equal = eqb-true; itself = λ n. eq-eqb n n refl }

pub texts : IsEquality bytes_eq
texts = record { equal = λ a b. (bytes_eq-Decides a b).0; itself = λ a. (bytes_eq-Decides a a).1 refl }

-- two tests that hold together hold each
pub both : (p q : Bool) → (p && q) ≡ true → (p ≡ true) × (q ≡ true)
both p q h = and_parts p q h

-- lists are equal where the test finds each of their elements equal
pub lists_equal : {A : Type 0} (same : A → A → Bool) → ((x y : A) → same x y ≡ true → x ≡ y) → (xs ys : List A) → pointwise same xs ys ≡ true → xs ≡ ys
lists_equal same equal [] [] t = refl
lists_equal same equal [] (y ∷ ys) t = cc
lists_equal same equal (x ∷ xs) [] t = cc
lists_equal same equal (x ∷ xs) (y ∷ ys) t =
    let parts = both (same x y) (pointwise same xs ys) t in
    let head = equal x y parts.0 in
    let tail = lists_equal same equal xs ys parts.1 in cc

-- and so is what may be there
pub options_equal : {A : Type 0} (same : A → A → Bool) → ((x y : A) → same x y ≡ true → x ≡ y) → (a b : Option A) → option_eq same a b ≡ true → a ≡ b
options_equal same equal None None t = refl
options_equal same equal (Some x) (Some y) t = ap Some (equal x y t)
options_equal same equal None (Some y) t = cc
options_equal same equal (Some x) None t = cc

list_itself : {A : Type 0} (same : A → A → Bool) → ((x : A) → same x x ≡ true) → (xs : List A) → pointwise same xs xs ≡ true
list_itself same itself [] = refl
list_itself same itself (x ∷ xs) = rw (itself x, list_itself same itself xs)

-- the test of lists, one by one
pub lists : {A : Type 0} (same : A → A → Bool) → IsEquality same → IsEquality (pointwise same)
lists same h = record { equal = lists_equal same h.equal; itself = list_itself same h.itself }

-- what such a test says
pub decides : {A : Type 0} (same : A → A → Bool) → IsEquality same → (a b : A) (r : Bool) → r ≡ same a b → IsTrue r ↔ (a ≡ b)
decides same h a b r is = (λ t. h.equal a b (sym is ∙ t), λ e. is ∙ subst (λ c. same a c ≡ true) e (h.itself a))
