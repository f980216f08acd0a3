-- Nothing is left only at the end of the text.
use Rattle.std.proofs.Common.{◌≡◌, ℕ, ◌≤◌, eqb, List, length, drop, sym, ap, ◌∙◌, ⊎_elim, arith}
use Rattle.std.proofs.lemmas.List.{drop_more, drop_all}
use Rattle.std.proofs.lemmas.Bool.{cases_lt, eq-eqb, ne_eqb}
use Rattle.script.specs.Lines.{ended}

pub ended_at : (text : List ℕ) (i : ℕ) → i ≤ length text → eqb i (length text) ≡ ended (drop i text)
ended_at text i h =
    ⊎_elim
    (λ inside. ne_eqb i (length text) (λ e. omega arith) ∙ sym (ap ended (drop_more text i 0 inside)))
    (λ past. eq-eqb i (length text) (omega arith) ∙ sym (ap ended (drop_all i text past)))
    (cases_lt i (length text))
