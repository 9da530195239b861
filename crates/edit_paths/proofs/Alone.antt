-- What a router says that a path is about is the only thing by which the path names an edit.
use Rattle.std.proofs.Common.{ℕ, List, [], ◌∷◌, ◌≡◌, ◌∙◌, refl, sym, subst, ap, codes, inl, inr}
use Rattle.std.specs.Prelude.{Option, Some, None, ◌⊎◌}
use Rattle.std.specs.Option.{option_or, option_and_then}
use Rattle.matchit.proofs.OnLiterals.{matchit_on_literals}
use Rattle.matchit.specs.Seek.{seek, param_step}
use Rattle.content_rows.specs.IdText.{id_of}
use Rattle.site_commands.specs.declared.command.ConfigKind.TheVariants as kind
use Rattle.edit_paths.specs.declared.edit.Edit.{Edit}
use Rattle.edit_paths.specs.declared.edit.Edit.TheVariants as edit
use Rattle.edit_paths.specs.declared.paths.Subject.{Subject}
use Rattle.edit_paths.specs.declared.paths.Subject.TheVariants as subject
use Rattle.content_rows.specs.LiteralName.{name_of}
use Rattle.edit_paths.specs.Paired.{posts, patches, deletes, first_edit}
use Rattle.edit_paths.specs.Routes.{Rows, with_route, post_rows, patch_rows, delete_rows, about_of, post_of, patch_of, delete_of}
use Rattle.edit_paths.proofs.Routed.{AreBytes, found_by, found_between, found_as}

-- ---- one subject at most

abbrev subjects : List Subject
subjects =
    subject.Node ∷ subject.Term ∷ subject.User
    ∷ subject.Config kind.Role ∷ subject.Config kind.NodeType ∷ subject.Config kind.Block ∷ subject.Config kind.Menu ∷ subject.Config kind.Listing
    ∷ subject.Site ∷ subject.Login ∷ subject.Logout ∷ subject.Cache ∷ subject.Comment ∷ []

abbrev Among : List Subject → Subject → Type 0
Among [] s = ⊥
Among (x ∷ xs) s = (s ≡ x) ⊎ Among xs s

among : (s : Subject) → Among subjects s
among subject.Node = inl refl
among subject.Term = inr (inl refl)
among subject.User = inr (inr (inl refl))
among (subject.Config kind.Role) = inr (inr (inr (inl refl)))
among (subject.Config kind.NodeType) = inr (inr (inr (inr (inl refl))))
among (subject.Config kind.Block) = inr (inr (inr (inr (inr (inl refl)))))
among (subject.Config kind.Menu) = inr (inr (inr (inr (inr (inr (inl refl))))))
among (subject.Config kind.Listing) = inr (inr (inr (inr (inr (inr (inr (inl refl)))))))
among subject.Site = inr (inr (inr (inr (inr (inr (inr (inr (inl refl))))))))
among subject.Login = inr (inr (inr (inr (inr (inr (inr (inr (inr (inl refl)))))))))
among subject.Logout = inr (inr (inr (inr (inr (inr (inr (inr (inr (inr (inl refl))))))))))
among subject.Cache = inr (inr (inr (inr (inr (inr (inr (inr (inr (inr (inr (inl refl)))))))))))
among subject.Comment = inr (inr (inr (inr (inr (inr (inr (inr (inr (inr (inr (inr (inl refl))))))))))))

-- the first edit that a path names by these subjects
abbrev first_by : (Subject → Option Edit) → List Subject → Option Edit
first_by edits [] = None
first_by edits (s ∷ ss) = option_or (edits s) (first_by edits ss)

some_names : (edits : Subject → Option Edit) (ss : List Subject) (e : Edit) → first_by edits ss ≡ Some e → (s : Subject) × (edits s ≡ Some e)
some_names edits [] e h = absurd cc
some_names edits (s ∷ ss) e h =
    elim (edits s) as (λ o. edits s ≡ o → option_or o (first_by edits ss) ≡ Some e → (t : Subject) × (edits t ≡ Some e)) [
      | Some x ↦ λ is h. (s, is ∙ h)
      | None ↦ λ is h. some_names edits ss e h
    ] refl h

or_none : (a b : Option Edit) → option_or a b ≡ None → (a ≡ None) × (b ≡ None)
or_none None b h = (refl, h)
or_none (Some e) b h = absurd cc

none_names : (edits : Subject → Option Edit) (ss : List Subject) (s : Subject) → first_by edits ss ≡ None → Among ss s → edits s ≡ None
none_names edits [] s h here = absurd here
none_names edits (x ∷ xs) s h (inl is) = ap edits is ∙ (or_none (edits x) (first_by edits xs) h).0
none_names edits (x ∷ xs) s h (inr later) = none_names edits xs s (or_none (edits x) (first_by edits xs) h).1 later

-- where a path names an edit only by the subject that is found, the edit by that subject is the first of all
chosen : (edits : Subject → Option Edit) (found : Option Subject) → ((s : Subject) (e : Edit) → edits s ≡ Some e → found ≡ Some s)
    → option_and_then edits found ≡ first_by edits subjects
chosen edits found only =
    elim (first_by edits subjects) as (λ o. first_by edits subjects ≡ o → option_and_then edits found ≡ o) [
      | Some e ↦ λ is. let (s, named) = some_names edits subjects e is in subst (λ (f : Option Subject). option_and_then edits f ≡ Some e) (sym (only s e named)) named
      | None ↦ λ is. elim found as (λ f. option_and_then edits f ≡ None) [ None ↦ refl | Some s ↦ none_names edits subjects s is (among s) ]
    ] refl

-- ---- the three methods

post_only : (path : List ℕ) → AreBytes path → (s : Subject) (e : Edit) → post_of s path ≡ Some e → about_of post_rows path ≡ Some s
unfolding matchit_on_literals with_route post_rows seek param_step
post_only path bytes subject.Node e = found_as (codes "/node") path post_rows subject.Node edit.CreateNode e refl
post_only path bytes subject.Term e = found_as (codes "/taxonomy/term") path post_rows subject.Term edit.CreateTerm e refl
post_only path bytes subject.User e = found_as (codes "/user") path post_rows subject.User edit.CreateUser e refl
post_only path bytes (subject.Config kind.Role) e = found_by (codes "/config/role/") path post_rows _ (edit.Set kind.Role) name_of e refl refl bytes
post_only path bytes (subject.Config kind.NodeType) e = found_by (codes "/config/type/") path post_rows _ (edit.Set kind.NodeType) name_of e refl refl bytes
post_only path bytes (subject.Config kind.Block) e = found_by (codes "/config/block/") path post_rows _ (edit.Set kind.Block) name_of e refl refl bytes
post_only path bytes (subject.Config kind.Menu) e = found_by (codes "/config/menu/") path post_rows _ (edit.Set kind.Menu) name_of e refl refl bytes
post_only path bytes (subject.Config kind.Listing) e = found_by (codes "/config/listing/") path post_rows _ (edit.Set kind.Listing) name_of e refl refl bytes
post_only path bytes subject.Site e = found_as (codes "/config/site") path post_rows subject.Site edit.SetSite e refl
post_only path bytes subject.Login e = found_as (codes "/user/login") path post_rows subject.Login edit.Login e refl
post_only path bytes subject.Logout e = found_as (codes "/user/logout") path post_rows subject.Logout edit.Logout e refl
post_only path bytes subject.Cache e = found_as (codes "/cache/rebuild") path post_rows subject.Cache edit.Rebuild e refl
post_only path bytes subject.Comment e = found_between (codes "/node/") (codes "comment") path post_rows _ edit.CreateComment id_of e refl refl refl bytes

patch_only : (path : List ℕ) → AreBytes path → (s : Subject) (e : Edit) → patch_of s path ≡ Some e → about_of patch_rows path ≡ Some s
unfolding matchit_on_literals with_route patch_rows
patch_only path bytes subject.Node e = found_by (codes "/node/") path patch_rows _ edit.ChangeNode id_of e refl refl bytes
patch_only path bytes subject.Term e = found_by (codes "/taxonomy/term/") path patch_rows _ edit.ChangeTerm id_of e refl refl bytes
patch_only path bytes subject.User e = found_by (codes "/user/") path patch_rows _ edit.ChangeUser id_of e refl refl bytes
patch_only path bytes (subject.Config kind) e = λ h. absurd cc
patch_only path bytes subject.Site e = λ h. absurd cc
patch_only path bytes subject.Login e = λ h. absurd cc
patch_only path bytes subject.Logout e = λ h. absurd cc
patch_only path bytes subject.Cache e = λ h. absurd cc
patch_only path bytes subject.Comment e = found_by (codes "/comment/") path patch_rows _ edit.ChangeComment id_of e refl refl bytes

delete_only : (path : List ℕ) → AreBytes path → (s : Subject) (e : Edit) → delete_of s path ≡ Some e → about_of delete_rows path ≡ Some s
unfolding matchit_on_literals with_route delete_rows
delete_only path bytes subject.Node e = found_by (codes "/node/") path delete_rows _ edit.RemoveNode id_of e refl refl bytes
delete_only path bytes subject.Term e = found_by (codes "/taxonomy/term/") path delete_rows _ edit.RemoveTerm id_of e refl refl bytes
delete_only path bytes subject.User e = λ h. absurd cc
delete_only path bytes (subject.Config kind.Role) e = found_by (codes "/config/role/") path delete_rows _ (edit.Remove kind.Role) name_of e refl refl bytes
delete_only path bytes (subject.Config kind.NodeType) e = found_by (codes "/config/type/") path delete_rows _ (edit.Remove kind.NodeType) name_of e refl refl bytes
delete_only path bytes (subject.Config kind.Block) e = found_by (codes "/config/block/") path delete_rows _ (edit.Remove kind.Block) name_of e refl refl bytes
delete_only path bytes (subject.Config kind.Menu) e = found_by (codes "/config/menu/") path delete_rows _ (edit.Remove kind.Menu) name_of e refl refl bytes
delete_only path bytes (subject.Config kind.Listing) e = found_by (codes "/config/listing/") path delete_rows _ (edit.Remove kind.Listing) name_of e refl refl bytes
delete_only path bytes subject.Site e = λ h. absurd cc
delete_only path bytes subject.Login e = λ h. absurd cc
delete_only path bytes subject.Logout e = λ h. absurd cc
delete_only path bytes subject.Cache e = λ h. absurd cc
delete_only path bytes subject.Comment e = found_by (codes "/comment/") path delete_rows _ edit.RemoveComment id_of e refl refl bytes

-- the edit by what is found is the first of the table
pub post_chosen : (rows : Rows) (path : List ℕ) (found : Option Subject) → rows ≡ post_rows → AreBytes path → found ≡ about_of rows path
    → option_and_then (λ s. post_of s path) found ≡ first_edit posts path
unfolding posts
post_chosen rows path found is bytes about =
    chosen (λ s. post_of s path) found (λ s e named. about ∙ ap (λ (r : Rows). about_of r path) is ∙ post_only path bytes s e named)

pub patch_chosen : (rows : Rows) (path : List ℕ) (found : Option Subject) → rows ≡ patch_rows → AreBytes path → found ≡ about_of rows path
    → option_and_then (λ s. patch_of s path) found ≡ first_edit patches path
unfolding patches
patch_chosen rows path found is bytes about =
    chosen (λ s. patch_of s path) found (λ s e named. about ∙ ap (λ (r : Rows). about_of r path) is ∙ patch_only path bytes s e named)

pub delete_chosen : (rows : Rows) (path : List ℕ) (found : Option Subject) → rows ≡ delete_rows → AreBytes path → found ≡ about_of rows path
    → option_and_then (λ s. delete_of s path) found ≡ first_edit deletes path
unfolding deletes
delete_chosen rows path found is bytes about =
    chosen (λ s. delete_of s path) found (λ s e named. about ∙ ap (λ (r : Rows). about_of r path) is ∙ delete_only path bytes s e named)
