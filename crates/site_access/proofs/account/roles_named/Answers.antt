use Rattle.std.proofs.Common.{ℕ, List, [], ◌∷◌, ◌++◌, ◌≡◌, ◌<◌, ◌+◌, length, get_or, take, map, sym, ap, ◌∙◌, Option, Some, None, option_copied, Bor}
use Rattle.std.specs.List.{filter_map, cons_option}
use Rattle.std.proofs.lemmas.List.{take_more, map-append, append-nil}
use Rattle.std.proofs.lemmas.List.Elements.{filter_map-append}
use Rattle.content_rows.specs.declared.row.Role.{Role}
use Rattle.indexed_rows.specs.Rows.{role_of}
use Rattle.site_access.proofs.account.roles_named.Goals as goal
use Rattle.site_access.proofs.account.roles_named.Goals.{in-Some+in_ok-push, in_default}

passed : {A B : Type 0} (h : A → Option B) (xs : List A) (i : ℕ) (d : A) → i < length xs → filter_map h (take (i + 1) xs) ≡ filter_map h (take i xs) ++ cons_option (h (get_or xs i d)) []
passed h xs i d within = ap (filter_map h) (take_more xs i d within) ∙ filter_map-append h (take i xs) (get_or xs i d ∷ [])

found_more : {A B R : Type 0} (f : R → B) (h : A → Option B) (xs : List A) (i : ℕ) (d : A) (roles more : List R) (r : R) → i < length xs → map f roles ≡ filter_map h (take i xs) → more ≡ roles ++ r ∷ [] → h (get_or xs i d) ≡ Some (f r) → map f more ≡ filter_map h (take (i + 1) xs)
found_more f h xs i d roles more r within so_far pushed there =
    ap (map f) pushed ∙ map-append f roles (r ∷ []) ∙ ap (λ ys. ys ++ f r ∷ []) so_far ∙ ap (λ o. filter_map h (take i xs) ++ cons_option o []) (sym there) ∙ sym (passed h xs i d within)

absent_more : {A B R : Type 0} (f : R → B) (h : A → Option B) (xs : List A) (i : ℕ) (d : A) (roles more : List R) → i < length xs → map f roles ≡ filter_map h (take i xs) → more ≡ roles → h (get_or xs i d) ≡ None → map f more ≡ filter_map h (take (i + 1) xs)
absent_more f h xs i d roles more within so_far same absent =
    ap (map f) same ∙ so_far ∙ sym (append-nil (filter_map h (take i xs))) ∙ ap (λ o. filter_map h (take i xs) ++ cons_option o []) (sym absent) ∙ sym (passed h xs i d within)

pub names-preserved : goal.names-preserved
names-preserved c =
    let rows = c.args.state.now.rows in
    let names = c.args.names.now in
    let asked : role_of rows (get_or names c.names.name-index c.name-item.result) ≡ option_copied c.role.result.0 = sym (ap (role_of rows) c.name-item.is) ∙ sym c.role.ensures.row in
    elim c.match-role.branch [
      | in-Some+in_ok-push w ↦
          found_more (λ (role : Bor Role). role.now) (role_of rows) names c.names.name-index c.name-item.result c.names.roles.items c.match-role.roles.items w.in-Some.role c.names-test.true c.names.invariant (ap (λ v. v.items) w.roles-is ∙ w.in_ok-push.ensures.items) (asked ∙ ap option_copied w.in-Some.is)
      | in_default w ↦
          absent_more (λ (role : Bor Role). role.now) (role_of rows) names c.names.name-index c.name-item.result c.names.roles.items c.match-role.roles.items c.names-test.true c.names.invariant (ap (λ v. v.items) w.roles-is) (asked ∙ ap option_copied w.in_default.is)
    ]
