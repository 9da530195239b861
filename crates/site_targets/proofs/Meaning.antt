-- The canonical targets that are open, each once, are just those whose pages a visitor without a session gets.
use Rattle.std.proofs.Common.{ℕ, List, [], ◌≡◌, refl, sym, ◌∙◌, ap, Bool, true, false, Contains}
use Rattle.std.specs.List.{filter}
use Rattle.std.specs.Cmp.Lexicographic.{nat_list_eq_equiv}
use Rattle.std.specs.Str.{bytes_eq}
use Rattle.std.proofs.lemmas.Bool.{eqb-true, eqb-false}
use Rattle.std.proofs.lemmas.List.Elements.{All-contains_itself, All-filter, All-weaker, filter_passes}
use Rattle.std.proofs.lemmas.Map.Views.{any-filter_same, list_any-from_Contains, Contains-from_any}
use Rattle.content_rows.specs.declared.cell.Cell.{Cell}
use Rattle.content_rows.specs.declared.row.Row.{Row}
use Rattle.content_state.specs.Ask.{path_of}
use Rattle.content_state.specs.Viewer.{nobody, viewer_of}
use Rattle.site_targets.specs.Canonical.{canonical}
use Rattle.site_targets.specs.Open.{path_status, is_open, EachStatus, IsOpenTo, IsClosedTo}
use Rattle.site_targets.specs.Targets.{TargetsMean}
use Rattle.site_targets.proofs.PageStatuses.{follow_access}
use Rattle.site_targets.proofs.OnceEach.{in_once, all_once, distinct, same_text}

-- a visitor without a session gets the status of the target's path
given : (rows : List (Cell × Row)) (target : List ℕ) → EachStatus (λ status. status ≡ path_status rows nobody (path_of target)) rows target
given rows target ask is same none moment status body page =
    follow_access rows ask moment status body page
    ∙ ap (λ cookie. path_status rows (viewer_of rows cookie moment) ask.path) none
    ∙ ap (path_status rows nobody) (is.path ∙ ap path_of same)

opens : (rows : List (Cell × Row)) (target : List ℕ) → is_open rows target ≡ true → IsOpenTo rows target
opens rows target passes ask is same none moment status body page =
    given rows target ask is same none moment status body page
    ∙ eqb-true (path_status rows nobody (path_of target)) 200 passes

closes : (rows : List (Cell × Row)) (target : List ℕ) → is_open rows target ≡ false → IsClosedTo rows target
closes rows target shut ask is same none moment status body page = λ found.
    eqb-false (path_status rows nobody (path_of target)) 200 shut
    (sym (given rows target ask is same none moment status body page) ∙ found)

-- one that passes a test stays where others are left out
stays : (p : List ℕ → Bool) (ts : List (List ℕ)) (t : List ℕ) → Contains ts t → p t ≡ true → Contains (filter p ts) t
stays p ts t there passes =
    Contains-from_any same_text t (filter p ts)
    (any-filter_same (bytes_eq t) p true (λ k same. ap p (sym (same_text t k same)) ∙ passes) ts
    ∙ list_any-from_Contains nat_list_eq_equiv t ts there)

by_test : (b : Bool) (G : Type 0) → (b ≡ true → G) → (b ≡ false → G) → G
by_test true G if_true if_false = if_true refl
by_test false G if_true if_false = if_false refl

pub mean : TargetsMean
mean rows =
    let all = canonical rows in
    let kept = filter (is_open rows) all in
    record {
      among = all_once (Contains all) [] kept (All-filter (is_open rows) (Contains all) all (All-contains_itself all));
      opened = all_once (IsOpenTo rows) [] kept (All-weaker (λ t. is_open rows t ≡ true) (IsOpenTo rows) (opens rows) kept (filter_passes (is_open rows) all));
      closed = λ t there absent.
          by_test (is_open rows t) (IsClosedTo rows t)
          (λ passes. absurd (absent (in_once t kept (stays (is_open rows) all t there passes))))
          (λ shut. closes rows t shut);
      once = distinct [] kept;
    }
