use Rattle.std.proofs.Common.{ap, sym, ◌∙◌}
use Rattle.std.specs.Option.{option_copied_mut}
use Rattle.interchange.specs.OfferTable.{closed_entry}
use Rattle.interchange.proofs.OfferTableLemmas.{entry_of-closed_entry, set_value-closed_entry}
use Rattle.interchange.proofs.closing.close.Goals as goal

pub returns-clause-closed_entry : goal.returns-clause-closed_entry
returns-clause-closed_entry c =
    let entry = c.in-Some.entry.now in
    let written = c.get_mut.follows.holds (closed_entry entry) in
    let found = sym c.get_mut.ensures.value ∙ ap option_copied_mut c.in-Some.is in
    entry_of-closed_entry c.args.table.now.entries (c.get_mut.follows.lender (closed_entry entry)).entries c.args.by c.args.number entry found (written.3 c.requires).0

pub returns-clause-entries : goal.returns-clause-entries
returns-clause-entries c =
    let entry = c.in-Some.entry.now in
    let written = c.get_mut.follows.holds (closed_entry entry) in
    let found = sym c.get_mut.ensures.value ∙ ap option_copied_mut c.in-Some.is in
    written.0 ∙ set_value-closed_entry c.args.table.now.entries c.args.by c.args.number entry found
