-- One token more.
use Rattle.json_tokens.proofs.Common.{◌≡◌, ℕ, Bool, cond, refl, true, false, List, [], ◌∷◌, ◌++◌, length, take, drop, sym, ap, subst, ◌∙◌, arith, length-append, append_assoc, take-append-le, drop-append-le, All-nil, All-cons, All-head, All-tail, Token, tokens, separator, token_text, ends, quoted, IsNumber, IsPrintable, tokens-print, print_from_push, ends_push, ArePrintable-push, IsNumber-decimal, IsSmallToken, AreSmall, written, IsWriting, CanBePut, is_plain, Inside}
use Rattle.json_tokens.proofs.PlainTextLemmas.{escape_plain}

small_more : (ts : List Token) (t : Token) → AreSmall ts → IsSmallToken t → AreSmall (ts ++ t ∷ [])
small_more [] t h small = All-cons IsSmallToken t [] small (All-nil IsSmallToken)
small_more (u ∷ ts) t h small =
    All-cons IsSmallToken u (ts ++ t ∷ []) (All-head IsSmallToken u ts h) (small_more ts t (All-tail IsSmallToken u ts h) small)

pub shows_printed : (w : Inside) (h : IsWriting w) → (written w).tokens ≡ h.printed
shows_printed w h = ap tokens h.text ∙ tokens-print h.printed h.printable

module _ (w v : Inside) (h : IsWriting w) (t : Token) (printable : IsPrintable t) (small : IsSmallToken t) (start : v.start ≡ w.start) (place : v.after_value ≡ ends t)
    (items : v.out.items ≡ w.out.items ++ (separator w.after_value t ++ token_text t)) where
  pub pushed : IsWriting v
  pushed =
      let more = separator w.after_value t ++ token_text t in
      record {
        within = omega (arith, h.within, ap length items, length-append w.out.items more);
        printed = h.printed ++ t ∷ [];
        printable = ArePrintable-push h.printed t h.printable printable;
        small = small_more h.printed t h.small small;
        text = (λ i. drop (start i) (items i)) ∙ drop-append-le w.start w.out.items more h.within
            ∙ (λ i. h.text i ++ (separator (h.place i) t ++ token_text t)) ∙ sym (print_from_push false h.printed t);
        place = place ∙ sym (ends_push false h.printed t);
      }

  pub pushed_tokens : (written v).tokens ≡ (written w).tokens ++ t ∷ []
  unfolding pushed
  pushed_tokens = shows_printed v pushed ∙ ap (λ l. l ++ t ∷ []) (sym (shows_printed w h))

  pub pushed_before : (written v).before ≡ (written w).before
  pushed_before = (λ i. take (start i) (items i)) ∙ take-append-le w.start w.out.items _ h.within

-- what can be put is a token of such a text
pub printable : (t : Token) → CanBePut t → IsPrintable t
printable Token.begin_object h = tt
printable Token.end_object h = tt
printable Token.begin_array h = tt
printable Token.end_array h = tt
printable (Token.key s) h = tt
printable (Token.string s) h = tt
printable (Token.number s) h = subst IsNumber (sym h.2) (IsNumber-decimal h.0 h.1)
printable (Token.boolean b) h = tt
printable Token.null h = tt
printable Token.bad h = h

pub small : (t : Token) → CanBePut t → IsSmallToken t
small Token.begin_object h = tt
small Token.end_object h = tt
small Token.begin_array h = tt
small Token.end_array h = tt
small (Token.key s) h = tt
small (Token.string s) h = tt
small (Token.number s) h = h
small (Token.boolean b) h = tt
small Token.null h = tt
small Token.bad h = tt

-- a quoted text, with what closes it
pub quoted_text : (text : List ℕ) → is_plain text ≡ true → (34 ∷ []) ++ (text ++ (34 ∷ [])) ≡ quoted text
quoted_text text h = ap (λ l. 34 ∷ (l ++ 34 ∷ [])) (sym (escape_plain text h))

pub key_text : (text : List ℕ) → is_plain text ≡ true → (34 ∷ []) ++ (text ++ (34 ∷ 58 ∷ [])) ≡ quoted text ++ 58 ∷ []
key_text text h = sym (append_assoc (34 ∷ text) (34 ∷ []) (58 ∷ [])) ∙ ap (λ l. l ++ 58 ∷ []) (quoted_text text h)

-- before a number stands a comma, if a value has just ended
pub comma_before_number : (after_value : Bool) (digits : List ℕ) → separator after_value (Token.number digits) ≡ cond after_value (44 ∷ []) []
comma_before_number true digits = refl
comma_before_number false digits = refl
