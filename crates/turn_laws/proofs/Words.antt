-- The rule, in plain words.
use Rattle.std.proofs.Common.{◌≡◌, ℕ, ◌<◌, ◌≤◌, List, [], ◌∷◌, ◌++◌, length, drop, inl, inr, ⊎_elim, Option, sym, ap, ◌∙◌, subst}
use Rattle.std.specs.Prelude.{slice_index}
use Rattle.std.specs.List.{All}
use mathlib.Core.Option.{some}
use lib.ListN.{get_elem?}
use Rattle.atomic_table.specs.Table.{State}
use Rattle.content_state.specs.Replay.{Begins}
use Rattle.content_state.specs.declared.commit.Commit.{Commit}
use Rattle.site_house.specs.House.{IsSublist, by_pass}
use Rattle.turn_rule.specs.declared.notes.HallNote.{HallNote}
use Rattle.turn_rule.specs.declared.notes.HallPart.{HallPart}
use Rattle.turn_rule.specs.declared.notes.DeskNote.{DeskNote}
use Rattle.turn_rule.specs.declared.notes.PassNote.{PassNote}
use Rattle.turn_rule.specs.declared.notes.FounderNote.{FounderNote}
use Rattle.turn_rule.specs.declared.notes.Note.{Note}
use Rattle.turn_rule.specs.Logs.{waiting, since}
use Rattle.turn_rule.specs.Rule.{Account, Claims, IsAmong, IsOpen, IsFresh, Opened, founder_in}
use Rattle.turn_laws.specs.Words.{Bears, IsTheHall, IsTheDesk, ArePasses, IsFounder}
use Rattle.turn_laws.specs.Laws.{RuleInPlainWords}
use Rattle.turn_rule.proofs.Edits.{drop_front}
use Rattle.turn_rule.proofs.Claims.{at_below, at_one, at_some}

claimed : (all : List PassNote) (holder : ℕ → ℕ) (j : ℕ) (ps : List PassNote) (p : PassNote) → Claims all holder j ps → IsAmong p ps → (get_elem? all p.number ≡ some p) × (holder p.number ≡ j)
claimed all holder j [] p c i = absurd i
claimed all holder j (q ∷ qs) p c i = ⊎_elim
    (λ (e : p ≡ q). subst (λ (x : PassNote). (get_elem? all x.number ≡ some x) × (holder x.number ≡ j)) (sym e) (c.0, c.1))
    (λ (r : IsAmong p qs). claimed all holder j qs p c.3 r)
    i

module _ {S : Type 0} (noted : S → Option HallPart) (noted_desk : S → Option DeskNote) (s : State S Note) (a : Account) (gate door : ℕ) (o : IsOpen noted noted_desk s a gate door) where
  borne : (j : ℕ) (p : PassNote) → Bears s j p → (get_elem? a.books.passes p.number ≡ some p) × (a.holder p.number ≡ j)
  borne j p b = claimed a.books.passes a.holder j b.0.passes p (o.fits j b.0 b.1).passes b.2

  gate_is : slice_index s.words 1 ≡ gate
  gate_is = ap (λ (ws : List ℕ). slice_index ws 1) o.words

  since_is : since a.books.opened a.books.hall ≡ a.books.past ++ waiting a.books.hall
  since_is = ap (λ (l : List Commit). l ++ waiting a.books.hall) (ap (drop (length a.books.opened.log)) o.sound.log ∙ drop_front a.books.opened.log a.books.past)

  the_hall : IsTheHall noted noted_desk s a.books.hall
  the_hall = record {
    word = ap (λ (ws : List ℕ). slice_index ws 0) o.words;
    home = λ z. o.home (sym gate_is ∙ z);
    away = λ z. (a.owner, o.away (λ e. z (gate_is ∙ e)));
    out = λ j v h at is. let t = (o.fits j v at).hall h is in (t.1, λ z. t.2 (sym gate_is ∙ z));
    alone = λ j k v w h i at there is its. ((o.fits j v at).hall h is).0 ∙ sym ((o.fits k w there).hall i its).0;
  }

  door_is : slice_index s.words 2 ≡ door
  door_is = ap (λ (ws : List ℕ). slice_index ws 2) o.words

  the_desk : IsTheDesk noted noted_desk s a.books.hall
  the_desk = record {
    home = λ z. o.desk (sym door_is ∙ z);
    away = λ z. (a.clerk, o.desk_away (λ e. z (door_is ∙ e)));
    out = λ j v h at is. let t = (o.fits j v at).desk h is in (t.1, λ z. t.2 (sym door_is ∙ z));
    alone = λ j k v w h i at there is its. ((o.fits j v at).desk h is).0 ∙ sym ((o.fits k w there).desk i its).0;
  }

  passes : ArePasses noted noted_desk s a.books.hall
  passes = record {
    seen = λ j p b. let r = o.sound.each p.number p (borne j p b).0 in (subst (λ (x : HallNote). Begins x.log p.seen) (sym r.opened) r.whole, r.seen);
    faults = λ j p b. let r = o.sound.each p.number p (borne j p b).0 in (subst (λ (x : HallNote). x.faults ≤ p.faults) (sym r.opened) r.faults_from, r.faults_to);
    once = λ j k p q b c e. let t = borne j p b in let u = borne k q c in (sym t.1 ∙ ap a.holder e ∙ u.1, at_one a.books.passes p.number p q t.0 (ap (get_elem? a.books.passes) e ∙ u.0));
    handed = λ j p b.
        let r = o.sound.each p.number p (borne j p b).0 in
        subst (λ (l : List Commit). IsSublist (by_pass p.number l) p.handed) (sym (ap (λ (x : HallNote). since x a.books.hall) r.opened ∙ since_is)) r.handed;
  }

  founder : (f : FounderNote) → f ≡ founder_in a.books → IsFounder noted noted_desk s a.books.hall f
  founder f is = subst (IsFounder noted noted_desk s a.books.hall) (sym is) (record {
    loaded = o.sound.loaded;
    whole = (a.books.past, o.sound.log);
    numbered = subst (All (λ c. c.pass < a.books.made)) (sym since_is) o.sound.numbered;
    there = λ n l. let t = at_some a.books.passes n (subst (λ (m : ℕ). n < m) (sym o.sound.count) l) in (a.holder n, t.0, o.placed n t.0 t.1, (o.sound.each n t.0 t.1).number_is);
    made = λ j p b. subst (λ (n : ℕ). p.number < n) o.sound.count (at_below a.books.passes p.number p (borne j p b).0);
  })

pub plain_words : {S : Type 0} (noted : S → Option HallPart) (noted_desk : S → Option DeskNote) → RuleInPlainWords noted noted_desk
plain_words {S} noted noted_desk s h = ⊎_elim
    (λ (f : IsFresh noted noted_desk s). inl f)
    (λ (x : Opened noted noted_desk s).
    let o = x.is_open in
    inr (x.account.books.hall, record { the_hall = the_hall noted noted_desk s x.account x.gate x.door o; the_desk = the_desk noted noted_desk s x.account x.gate x.door o; passes = passes noted noted_desk s x.account x.gate x.door o; founder = λ j v f at is. founder noted noted_desk s x.account x.gate x.door o f ((o.fits j v at).founder f is).1 }))
    h
