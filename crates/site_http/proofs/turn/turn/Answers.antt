use Rattle.std.proofs.Common.{◌≡◌, ◌++◌, drop, length, rules, inl, inr, refl, sym, subst}
use Rattle.std.proofs.lemmas.List.{append-nil}
use Rattle.site_http.specs.declared.known.KnownRequest.{KnownRequest}
use Rattle.site_http.specs.Known.{Begins, IsKnown}
use Rattle.site_http.proofs.Asks.{are_asks}
use Rattle.site_http.specs.Connection.{closes_after}
use Rattle.site_http.specs.Kept.{shelves_of}
use Rattle.site_http.proofs.Turning.{half_turned, late_turned}
use Rattle.site_http.proofs.Kept.{keeps_nothing}
use Rattle.site_late.proofs.Told.{after_nothing, points_nothing}
use Rattle.site_http.proofs.turn.turn.Goals as goal

pub returns-in-Err-clause-turned : goal.returns-in-Err-clause-turned
returns-in-Err-clause-turned g c =
    let f = c.in-Err.ensures.failed in
    inr (inl (record {
      code = c.in-Refused.code;
      count = f.count;
      refuses = search rules;
      gave = record {
        clock = after_nothing (g.C.Clock.given c.args.clock.now);
        chance = after_nothing (g.E.Entropy.given c.args.entropy.now);
        gate = points_nothing (g.G.Gate.reached c.args.gate.now);
        sink = f.told;
        house = sym (append-nil (g.H.House.sees c.args.house.now).handed);
        failures = refl {a = (g.H.House.sees c.args.house.now).keepers};
        kept = keeps_nothing (shelves_of (g.H.House.sees c.args.house.now)) (shelves_of (g.H.House.sees c.args.house.now)) refl;
      };
    }))

pub returns-in-WriteFault-clause-turned : goal.returns-in-WriteFault-clause-turned
returns-in-WriteFault-clause-turned g c =
    let f = c.in-Request.ensures.fetches in
    let closes : c.if-closes.closing ≡ closes_after 1000 c.args.index c.in-Request.request = search rules in
    half_turned c.in-Request.request f.decides.0 f.more c.if-closes.closing closes f.source f.needed f.decides.1 c.in-WriteFault.ensures.replies

pub returns-in-OutOfMemory-clause-turned : goal.returns-in-OutOfMemory-clause-turned
returns-in-OutOfMemory-clause-turned g c =
    let f = c.in-Request.ensures.fetches in
    let closes : c.if-closes.closing ≡ closes_after 1000 c.args.index c.in-Request.request = search rules in
    inr (late_turned c.in-Request.request f.decides.0 f.more c.if-closes.closing closes f.source f.needed f.decides.1 c.in-OutOfMemory.ensures.replies)

pub answer-requires-clause-right : goal.answer-requires-clause-right
answer-requires-clause-right g c = are_asks _ c.in-Request.request c.in-Request.ensures.fetches.decides.0 c.in-Request.ensures.fetches.decides.1

pub answer-requires-clause-plain : goal.answer-requires-clause-plain
answer-requires-clause-plain g c = c.in-Request.ensures.fetches.decides.3

pub turn_known-requires-clause-known : goal.turn_known-requires-clause-known
turn_known-requires-clause-known g c =
    subst IsKnown (sym c.deref.ensures) (c.in-Known.ensures.known (g.H.House.sees c.args.house.now) c.requires.recent)

pub returns-in-Known-clause-turned : goal.returns-in-Known-clause-turned
returns-in-Known-clause-turned g c =
    let f = c.in-Known.ensures.fetches in
    c.turn_known.ensures.turned (g.S.Source.left c.args.source.now) (g.S.Source.left c.next_request.new.source) c.args.inbox.now c.next_request.new.self
    (record { more = f.more; source = f.source; needed = f.needed; begins = subst (λ (k : KnownRequest). Begins k (c.args.inbox.now ++ f.more)) (sym c.deref.ensures) f.decides.0; kept = subst (λ (k : KnownRequest). c.next_request.new.self ≡ drop (length k.bytes.items) (c.args.inbox.now ++ f.more)) (sym c.deref.ensures) f.decides.1 })
