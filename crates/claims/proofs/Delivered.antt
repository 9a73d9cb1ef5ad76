-- What the outcome of map says of the mapping rule: a number is a text's length, and 9 comes from the rule alone.
-- Assumes nothing.
use Rattle.std.proofs.Common.{ℕ, ◌≡◌, ap, List, ◌++◌, ltb, length, take, drop}
use lib.Seq.{take-append_seam}
use Rattle.rules.specs.Basics.{pick}
use Rattle.rules.specs.Form.{form01}
use Rattle.rules.specs.Refusals.{Res, good, refused}
use Rattle.rules.specs.Mapping.{mapped_text}
use Rattle.rules.specs.Calls.{Outcome, delivered, map_outcome}
use Rattle.rules.proofs.Laws.{by_pick}
use Rattle.rules.proofs.Answers.{good_same}
use Rattle.claims.proofs.Texts.{Mapped, text_mapped, form01_fits}

-- a text that was delivered stands first in the buffer
delivered_text : (r : Res (List ℕ)) (out : List ℕ) (n : ℕ) → (delivered r out).answer ≡ good n → r ≡ good (take n (delivered r out).lent)
unfolding delivered pick
delivered_text (refused x) out n e = cc
delivered_text (good t) out n e =
    let whole : Outcome = record { answer = good (length t); lent = t ++ drop (length t) out } in
    by_pick (λ (o : Outcome). o.answer ≡ good n → ◌≡◌ {A = Res (List ℕ)} (good t) (good (take n o.lent))) (ltb (length out) (length t)) {y = whole}
    (λ _ f. cc) (λ _ f. rw (← good_same (length t) n f, take-append_seam t (drop (length t) out))) e

pub map-answered : (row : ℕ) (text out : List ℕ) (n : ℕ) → (map_outcome row text out).answer ≡ good n → Mapped form01 text (take n (map_outcome row text out).lent)
unfolding map_outcome
map-answered row text out n e = text_mapped form01 form01_fits row text _ (delivered_text (mapped_text form01 row text) out n e)

-- a refusal is delivered as it is, and delivering adds none but 10
delivered_nine : (r : Res (List ℕ)) (out : List ℕ) → (delivered r out).answer ≡ refused 9 → r ≡ refused 9
unfolding delivered pick
delivered_nine (refused x) out e = cc
delivered_nine (good t) out e =
    let whole : Outcome = record { answer = good (length t); lent = t ++ drop (length t) out } in
    by_pick (λ (o : Outcome). o.answer ≡ refused 9 → ◌≡◌ {A = Res (List ℕ)} (good t) (refused 9)) (ltb (length out) (length t)) {y = whole}
    (λ _ f. cc) (λ _ f. cc) e

pub nine_answered : (row : ℕ) (text out : List ℕ) → (map_outcome row text out).answer ≡ refused 9 → mapped_text form01 row text ≡ refused 9
unfolding map_outcome
nine_answered row text out e = delivered_nine (mapped_text form01 row text) out e

pub refusal_delivered : (row : ℕ) (text out : List ℕ) (x : ℕ) → mapped_text form01 row text ≡ refused x → (map_outcome row text out).answer ≡ refused x
unfolding map_outcome delivered
refusal_delivered row text out x e = ap (λ (r : Res (List ℕ)). (delivered r out).answer) e
