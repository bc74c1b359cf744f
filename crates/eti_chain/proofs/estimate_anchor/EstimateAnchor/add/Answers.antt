use Rattle.eti_chain.proofs.Common.{ap, ◌∙◌, sym, ◌∷◌, [], ◌++◌, option_map, option_or, delayed_by, anchor_after, estimate_basis, EstimateAnchor, anchor_with_commitment}
use Rattle.eti_chain.proofs.CalendarLemmas.{is_within}
use Rattle.eti_chain.proofs.EstimateLemmas.{anchor_push}
use Rattle.eti_chain.proofs.EstimateStateLemmas.{commitment-kept}
use Rattle.eti_chain.proofs.estimate_anchor.EstimateAnchor.add.Goals as goal

pub returns-clause-kept : goal.returns-clause-kept
returns-clause-kept c =
    let events = c.args.track.now.events in
    let e = c.args.event in
    let was = c.self.view_is ∙ c.requires.of_track in
    let next = c.go_on.ensures ∙ (λ i. option_or (c.anchor_in-new.ensures.value i) (option_map (delayed_by (c.delay_in-delay.ensures.value i)) c.self.inside.newest)) in
    let anchors = next ∙ ap (λ (k : EstimateAnchor). anchor_after k.newest e) was ∙ sym (anchor_push events e) in
    let commits = ap (λ (k : EstimateAnchor). k.commit) was ∙ commitment-kept events e c.requires.admitted in
    λ i. anchor_with_commitment (anchors i) (commits i)

pub invariant_of-self : goal.invariant_of-self
invariant_of-self c =
    let is = ap (λ (k : EstimateAnchor). k.newest) (returns-clause-kept c) in
    let on_a_leg = c.in_ok-add.ensures.on_a_leg in
    rw is (is_within (estimate_basis (c.args.track.now.events ++ c.args.event ∷ [])) (rw c.in_ok-add.ensures.ok at on_a_leg) c.requires.fits).small
