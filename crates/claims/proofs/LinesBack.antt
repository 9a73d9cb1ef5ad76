-- Things written one after the other, a line each, read back one after the other.
-- Assumes nothing.
use Rattle.std.proofs.Common.{ℕ, suc, ◌≡◌, ◌∙◌, List, [], ◌∷◌, ◌++◌, append-nil, append_assoc, length}
use Rattle.std.proofs.lemmas.List.Elements.{All-head, All-tail}
use Rattle.std.specs.List.{All}
use Rattle.rules.specs.Form.{Form}
use Rattle.rules.specs.Refusals.{Res, good, ◌>>=◌}
use Rattle.rules.specs.Lines.{line}
use Rattle.rules.specs.Netlist.{lines}
use Rattle.rules.specs.Sequence.{texts}

-- a thing's text is one line, which a rule reads as that thing
pub record Reads {A : Type 0} (F : Form) (rule : List ℕ → Res A) (text : A → List ℕ) (a : A) : Type 0 where
  pub bytes : List ℕ
  pub line_of : (rest : List ℕ) → line F (text a ++ rest) ≡ good (record { bytes = bytes; rest = rest })
  pub rule_of : rule bytes ≡ good a

pub lines_back : {A : Type 0} (F : Form) (rule : List ℕ → Res A) (text : A → List ℕ) (l : List A) → All (Reads F rule text) l
    → (own : ℕ) (sofar : List A) (rest : List ℕ)
    → lines F (λ _. rule) (length l) own sofar (texts text l ++ rest) ≡ good (record { got = sofar ++ l; tail = rest })
unfolding lines texts ◌>>=◌
lines_back F rule text [] e own sofar rest = rw (append-nil sofar)
lines_back F rule text (a ∷ l) e own sofar rest =
    let r = All-head (Reads F rule text) a l e in
    rw (append_assoc (text a) (texts text l) rest, r.line_of (texts text l ++ rest), r.rule_of)
    (lines_back F rule text l (All-tail (Reads F rule text) a l e) (suc own) (sofar ++ (a ∷ [])) rest ∙ rw (append_assoc sofar (a ∷ []) l))
