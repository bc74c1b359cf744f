use Rattle.std.proofs.Common.{◌-◌, ◌*◌, ◌%◌, arith, ap, sym, ◌∙◌, slice_get}
use Rattle.history_pages.proofs.EntryLemmas.{entry-full, entry-current}
use Rattle.history_pages.proofs.pages.Pages.get.Goals as goal

pub returns-then-page-len : goal.returns-then-page-len
returns-then-page-len g c =
    let index = c.args.index in
    let page = c.as_slice.ensures.value ∙ ap (λ v. v.items) c.index.ensures in
    let entry = entry-full c.self.inside c.self.invariant index c.index.result.now (omega arith) in
    c.entry_at.ensures ∙ ap (λ xs. slice_get xs (index % 1024)) page ∙ sym entry ∙ ap (λ v. slice_get v.entries index) c.self.view_is

pub returns-else-page-len : goal.returns-else-page-len
returns-else-page-len g c =
    let index = c.args.index in
    let page = c.as_slice-else-page-len.ensures.value in
    let pages = c.len-else-page-len.ensures in
    let entry = entry-current c.self.inside c.self.invariant index (omega arith) in
    c.entry_at-else-page-len.ensures ∙ (λ k. slice_get (page k) (index - pages k * 1024)) ∙ sym entry ∙ ap (λ v. slice_get v.entries index) c.self.view_is
