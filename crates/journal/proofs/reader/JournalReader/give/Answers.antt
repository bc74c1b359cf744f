use Rattle.std.proofs.Common.{◌≡◌, ◌∙◌, ◌++◌, ◌+◌, ◌-◌, ap, sym, subst, take, drop, length, List, Vec, ℕ}
use Rattle.std.specs.declared.alloc.Global.{Global}
use Rattle.std.proofs.lemmas.List.{take_rest}
use Rattle.journal.specs.Lines.{text_lines}
use Rattle.journal.specs.Journals.{bytes_read, torn_bytes, whole_len, given_lines, IsSplit}
use Rattle.journal.proofs.ReaderLemmas.{split_given, lines_more}
use Rattle.journal.proofs.reader.JournalReader.give.Goals as goal

pub returns-clause-reading : goal.returns-clause-reading
returns-clause-reading g c =
    let reader = c.args.self.now in
    let len = c.args.len in
    let old = torn_bytes reader in
    let rest : c.replace-text.new.dest.items ≡ drop len old =
    ap (λ (v : Vec ℕ Global). v.items) c.replace-text.ensures.after ∙ c.in_ok-rest.ensures.items
    ∙ ap (λ (l : List ℕ). take (length l - len) (drop len l)) c.as_slice.ensures.value ∙ take_rest old len in
    subst (λ (r : List ℕ). IsSplit (bytes_read reader) (whole_len reader + len) r) (sym rest)
    (split_given (bytes_read reader) (whole_len reader) old c.requires.reading len c.requires.within c.requires.batches)

pub returns-clause-lines : goal.returns-clause-lines
returns-clause-lines g c =
    let reader = c.args.self.now in
    let len = c.args.len in
    let text : c.truncate.new.self.items ≡ take len (torn_bytes reader) =
    c.truncate.ensures.items ∙ ap (λ (v : Vec ℕ Global). take len v.items) c.replace-text.ensures.value in
    lines_more (bytes_read reader) (whole_len reader) (torn_bytes reader) c.requires.reading len c.requires.within c.requires.batches
    ∙ ap (λ (t : List ℕ). given_lines reader ++ text_lines t) (sym text)
