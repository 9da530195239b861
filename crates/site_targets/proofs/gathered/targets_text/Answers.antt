use Rattle.std.proofs.Common.{ℕ, List, [], ◌∷◌, ◌++◌, ◌≡◌, ◌<◌, ◌+◌, length, get_or, take, sym, ◌∙◌, ap, append_assoc, arith}
use Rattle.std.specs.List.{flat_map}
use Rattle.std.proofs.Math.Seq.{take-length}
use Rattle.std.proofs.lemmas.Grind.{flat_map-append}
use Rattle.std.proofs.lemmas.List.{append-nil, take_more}
use Rattle.site_targets.specs.Targets.{target_line}
use Rattle.site_targets.proofs.gathered.targets_text.Goals as goal

one_line : (ts : List (List ℕ)) (i : ℕ) (t text added ended : List ℕ) → i < length ts → t ≡ get_or ts i t → text ≡ flat_map target_line (take i ts) → added ≡ text ++ t → ended ≡ added ++ 10 ∷ [] → ended ≡ flat_map target_line (take (i + 1) ts)
one_line ts i t text added ended within item so_far adds ends =
    ends
    ∙ ap (λ l. l ++ 10 ∷ []) adds
    ∙ append_assoc text t (10 ∷ [])
    ∙ ap (λ l. l ++ target_line t) so_far
    ∙ ap (λ u. flat_map target_line (take i ts) ++ target_line u) item
    ∙ ap (λ l. flat_map target_line (take i ts) ++ l) (sym (append-nil (target_line (get_or ts i t))))
    ∙ sym (flat_map-append target_line (take i ts) (get_or ts i t ∷ []))
    ∙ ap (flat_map target_line) (sym (take_more ts i t within))

pub targets-preserved : goal.targets-preserved
targets-preserved c =
    one_line c.deref-target-items.result.now c.targets.target-index c.target-item.result c.targets.text.items c.extend_from_slice.new.self.items c.push.new.self.items c.targets-test.true c.target-item.is c.targets.invariant
    (c.in_ok-extend_from_slice.ensures.items ∙ ap (λ l. c.targets.text.items ++ l) c.as_slice.ensures)
    c.in_ok-push.ensures.items

pub returns : goal.returns
returns c =
    let items = c.deref-target-items.result.now in
    let last : c.targets.target-index ≡ length items = omega (arith, c.targets-test.false, c.targets.auto.target-index-end) in
    c.targets.invariant
    ∙ ap (flat_map target_line) (ap (λ i. take i items) last ∙ take-length items ∙ c.deref-target-items.ensures.value ∙ c.in_ok-targets.ensures.exactly)
