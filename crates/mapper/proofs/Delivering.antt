-- The whole text delivered, or refused, and the call.
-- Assumes nothing.
use Prim.Native.Nat.{ℕ, ◌+◌, ◌-◌, ◌<◌, ◌≤◌}
use native.Mathlib.Omega.{arith}
use mathlib.Core.Path.{◌≡◌, refl, sym, ap, ◌∙◌}
use mathlib.Core.Bool.{true, false}
use mathlib.Core.List.{List, ◌++◌, append_assoc}
use borrow.Author.Tests.{lt-ltb, le-ltb}
use lib.ListN.{length, take, drop, length-append}
use lib.Seq.{sets, take_at, drop_at, drop-drop}
use borrow.Rule.Slice.PartMut.{put_mid}
use Rattle.rules.proofs.Lists.{sets_front}
use Rattle.rules.specs.Basics.{pick, within}
use Rattle.rules.specs.Form.{form01}
use Rattle.rules.specs.Lines.{written, bytes_of}
use Rattle.rules.specs.Refusals.{good, refused, ◌>>=◌, ◌>>◌, require}
use Rattle.rules.specs.Sequence.{Sequence, head_text, sequence_text}
use Rattle.rules.specs.Netlist.{netlist_of}
use Rattle.rules.specs.Mapping.{mapped, mapped_text}
use Rattle.rules.specs.Calls.{Outcome, delivered, map_outcome}
use Rattle.netlist.specs.declared.Netlist.{Netlist}
use Rattle.netlist.specs.Flat.{netlist_in}
use Rattle.mapper.specs.Text.{head_line}
use Rattle.mapper.specs.Whole.{text_in, body_text, Bodied}
use Rattle.mapper.proofs.Bodies.{body_no_row}

-- ---- the text of a netlist that was read

head_is : (S : Sequence) → head_text form01 S ≡ head_line S.row S.inputs S.outputs (length S.instructions)
unfolding head_text form01 head_line bytes_of
head_is S = refl

pub head_long : (row inputs outputs lines : ℕ) → length (head_line row inputs outputs lines) ≡ 13
unfolding head_line written
head_long row inputs outputs lines = refl

text_is : (S : Sequence) → sequence_text form01 S ≡ head_line S.row S.inputs S.outputs (length S.instructions) ++ body_text S
unfolding sequence_text body_text
text_is S = ap (λ h. h ++ body_text S) (head_is S)

text_from : (S : Sequence) {row inputs outputs lines : ℕ} → S.row ≡ row → S.inputs ≡ inputs → S.outputs ≡ outputs → lines ≡ length S.instructions
    → sequence_text form01 S ≡ head_line row inputs outputs lines ++ body_text S
text_from S a b c d = text_is S ∙ rw (a, b, c, d)

-- a head at the front, then a text behind it
put_behind : (head text out : List ℕ) (n : ℕ) {out' : List ℕ} → length head ≡ n → n + length text ≤ length out → out' ≡ sets out 0 head
    → put_mid n (n + length text - n) out' text ≡ (head ++ text) ++ drop (n + length text) out
put_behind head text out n {out'} l h e =
    let k : n + length text - n ≡ length text = omega arith in
    let f : out' ≡ head ++ drop n out = e ∙ sets_front head out (omega (arith, l)) ∙ ap (λ i. head ++ drop i out) l in
    let a : take n (head ++ drop n out) ≡ head = take_at head (drop n out) n l in
    let b : drop n (head ++ drop n out) ≡ drop n out = drop_at head (drop n out) n l in
    rw (k, f, a, b, drop-drop (length text) n out, append_assoc)

module _ (n : Netlist) (row : ℕ) (out : List ℕ) where
  pub deliver_none : {r : ℕ} → mapped (netlist_in n) row ≡ refused r → ◌≡◌ {A = Outcome} (record { answer = refused r; lent = out }) (delivered (text_in n row) out)
  unfolding text_in delivered ◌>>=◌
  deliver_none e = rw e

  pub no_work_cell : row ≤ n.inputs → ◌≡◌ {A = Outcome} (record { answer = refused 9; lent = out }) (delivered (text_in n row) out)
  no_work_cell h = deliver_none (body_no_row n row h)

  module _ (text : List ℕ) (lines : ℕ) (b : Bodied n row text lines) where
    text_some : text_in n row ≡ good (sequence_text form01 b.sequence)
    unfolding text_in ◌>>=◌
    text_some = rw b.is

    whole : sequence_text form01 b.sequence ≡ head_line row n.inputs n.outputs lines ++ text
    whole = text_from b.sequence b.rows b.inputs b.outputs b.count ∙ ap (λ t. head_line row n.inputs n.outputs lines ++ t) (sym b.text_is)

    long : length (sequence_text form01 b.sequence) ≡ 13 + length text
    long = ap length whole ∙ length-append (head_line row n.inputs n.outputs lines) text ∙ ap (λ k. k + length text) (head_long row n.inputs n.outputs lines)

    pub deliver_short : length out < 13 + length text → ◌≡◌ {A = Outcome} (record { answer = refused 10; lent = out }) (delivered (text_in n row) out)
    unfolding delivered pick
    deliver_short h = rw (text_some, lt-ltb (length out) (length (sequence_text form01 b.sequence)) (omega (arith, long)))

    pub deliver_good : {out' : List ℕ} → 13 + length text ≤ length out → out' ≡ sets out 0 (head_line row n.inputs n.outputs lines)
        → ◌≡◌ {A = Outcome} (record { answer = good (13 + length text); lent = put_mid 13 (13 + length text - 13) out' text }) (delivered (text_in n row) out)
    unfolding delivered pick
    deliver_good h e = rw (put_behind (head_line row n.inputs n.outputs lines) text out 13 (head_long row n.inputs n.outputs lines) h e) (rw (text_some, le-ltb (length out) (length (sequence_text form01 b.sequence)) (omega (arith, long)), long, whole))

-- ---- the call

module _ (row : ℕ) (text out : List ℕ) where
  pub bad_row : within 2 256 row ≡ false → ◌≡◌ {A = Outcome} (record { answer = refused 8; lent = out }) (map_outcome row text out)
  unfolding map_outcome delivered mapped_text form01 ◌>>◌ require
  bad_row h = rw h

  module _ (h : within 2 256 row ≡ true) where
    texts_are : mapped_text form01 row text ≡ (netlist_of form01 text >>= λ N. mapped N row >>= λ S. good (sequence_text form01 S))
    unfolding mapped_text form01 ◌>>◌ require
    texts_are = rw h

    pub not_read : {r : ℕ} → refused r ≡ netlist_of form01 text → ◌≡◌ {A = Outcome} (record { answer = refused r; lent = out }) (map_outcome row text out)
    unfolding map_outcome delivered ◌>>=◌
    not_read e = rw (texts_are, ← e)

    pub was_read : (n : Netlist) → good (netlist_in n) ≡ netlist_of form01 text → delivered (text_in n row) out ≡ map_outcome row text out
    unfolding map_outcome text_in ◌>>=◌
    was_read n e = rw (texts_are, ← e)
