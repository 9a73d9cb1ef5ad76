-- What the book's step answers is what document 01's rule for the checker says.
use Rattle.std.proofs.Common.{ℕ, zero, suc, ◌+◌, ◌-◌, ◌/◌, ◌≤◌, min, arith, ◌≡◌, refl, sym, ap, ◌∙◌, List, [], ◌∷◌, ◌++◌, map, ltb, get_or, length, take, drop, set, replicate}
use mathlib.Core.List.{map-append}
use mathlib.Core.Option.{Option}
use lib.ListN.{length-map, length-replicate}
use lib.Seq.{sets, sets-eq, take-append-add}
use Rattle.std.proofs.lemmas.List.{take-replicate, drop-replicate}
use Rattle.rules.specs.Basics.{pick, upto}
use Rattle.rules.specs.Refusals.{Res, good, refused, ◌>>=◌}
use Rattle.rules.specs.Netlist.{Netlist}
use Rattle.rules.specs.Sequence as rules
use Rattle.rules.specs.Sequence.{Set, Nor}
use Rattle.rules.specs.Book as rule
use Rattle.rules.specs.Book.{unknown, ready, holds, first_book, signals, made, step}
use Rattle.rules.proofs.Lists.{length-upto}
use Rattle.instruction.specs.declared.Instruction.{Instruction}
use Rattle.instruction.specs.Line.{instruction_at, instruction_in}
use Rattle.instruction.proofs.Standing.{cells_inside}
use Rattle.book.specs.declared.Cell.{Cell}
use Rattle.book.specs.declared.Cell.TheVariants.{Unknown, Holds}
use Rattle.book.specs.declared.Book.{Book}
use Rattle.book.specs.Cells.{cell_in, cell_of, book_in, blank_cells, first_of}
use Rattle.book.specs.Steps.{made_with, step_with, standing_in, stepped_of, gate_for}
use Rattle.book.proofs.Laws.{saids_same}

-- ---- the first book

abbrev blank : ℕ → List Cell
blank n = replicate n Unknown

-- cells that are unknown say nothing
unknowns : (k : ℕ) → map cell_in (blank k) ≡ replicate k unknown
unfolding cell_in
unknowns zero = refl
unknowns (suc k) = ap (λ l. unknown ∷ l) (unknowns k)

first_cells_lem : (n row : ℕ) (held : List rule.Cell) → length held ≤ row → row ≤ n
    → map cell_in (take row (sets (blank n) 0 (map cell_of held))) ≡ held ++ replicate (row - length held) unknown
first_cells_lem n row held low high =
    let cs = map cell_of held in
    let l : length cs ≡ length held = length-map held cell_of in
    let h : 0 + length cs ≤ length (blank n) = omega (arith, length-replicate {A = Cell} n Unknown) in
    let e : row ≡ length cs + (row - length held) = omega arith in
    let a : take row (sets (blank n) 0 cs) ≡ cs ++ take (row - length held) (drop (0 + length cs) (blank n)) =
    rw (sets-eq cs (blank n) 0 h) (ap (λ k. take k (cs ++ drop (0 + length cs) (blank n))) e ∙ take-append-add cs (drop (0 + length cs) (blank n)) (row - length held)) in
    let d : take (row - length held) (drop (0 + length cs) (blank n)) ≡ blank (row - length held) =
    ap (take (row - length held)) (drop-replicate (0 + length cs) n Unknown) ∙ take-replicate (row - length held) (n - (0 + length cs)) Unknown (omega arith) in
    rw (a, d, map-append cell_in cs (blank (row - length held)), saids_same held, unknowns (row - length held))

holding : (l : List ℕ) → map cell_of (map holds l) ≡ map Holds l
unfolding cell_of
holding [] = refl
holding (s ∷ l) = ap (λ t. Holds s ∷ t) (holding l)

pub first_means : (row inputs : ℕ) → inputs ≤ row → row ≤ 256 → book_in (first_of row inputs) ≡ first_book inputs row
unfolding book_in first_of first_book
first_means row inputs low high =
    let l : length (map holds (upto 0 inputs)) ≡ inputs = length-map (upto 0 inputs) holds ∙ length-upto 0 inputs in
    ap (λ cs. map cell_in (take row (sets blank_cells 0 cs))) (sym (holding (upto 0 inputs)))
    ∙ first_cells_lem 256 row (map holds (upto 0 inputs)) (omega arith) high ∙ ap (λ k. map holds (upto 0 inputs) ++ replicate (row - k) unknown) l

-- ---- one instruction

-- document 01's step, by the gate that the instruction makes
pub step_with_lem : (N : Netlist) (i : rules.Instruction) (book : List rule.Cell) → step N i book ≡ step_with N.inputs (gate_for N i book) i book
unfolding step step_with gate_for made_with
step_with_lem N (Set cs) book = refl
step_with_lem N (Nor w os) book = ap (λ (r : Res ℕ). pick (ltb w N.inputs) (refused 13) (r >>= λ g. good (set book w (holds g)))) (go (get_or book w unknown))
  where
    go : (c : rule.Cell) → made N c (signals book os) ≡ made_with (gate_for N (Nor w os) book) c
    go unknown = refl
    go ready = refl
    go (holds s) = refl

-- an instruction that was decoded stands in the text whole
pub standing_all : (text : List ℕ) (at : ℕ) → standing_in text (instruction_at text at) ≡ instruction_at text at
unfolding standing_in
standing_all text at =
    let i = instruction_at text at in
    let z : min i.cells ((length text - i.first) / 2) ≡ i.cells = omega (arith, cells_inside text at) in
    ap (λ n. record { set = i.set; first = i.first; cells = n; next = i.next }) z

-- document 01's step, where the gate is the one that the netlist has for the instruction
pub stepped_means : (N : Netlist) (b : Book) (text : List ℕ) (i : Instruction) (gate : Option ℕ) → b.inputs ≡ N.inputs
    → gate ≡ gate_for N (instruction_in text (standing_in text i)) (book_in b) → stepped_of b text i gate ≡ step N (instruction_in text (standing_in text i)) (book_in b)
unfolding stepped_of book_in
stepped_means N b text i gate n g = rw (n, g) (sym (step_with_lem N (instruction_in text (standing_in text i)) (book_in b)))
