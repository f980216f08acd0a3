-- The numbers that a memory holds, and the table that they stand for.
use Rattle.std.specs.Prelude.{ℕ, ◌%◌, ◌≤◌, cond, ◌&&◌, Some, None, Option, ◌==◌, nat_lt}
use Rattle.std.proofs.Common.{⊎_elim}
use Rattle.std.proofs.lemmas.Bool.{cond_both, cond-false, ltb-true, le-ltb, and_left, and_right}
use Rattle.cells.specs.declared.Colour.{Colour}
use Rattle.cells.specs.declared.Colour.TheVariants.{Blue, White, Grey, Black}
use Rattle.cells.specs.declared.MemoryRefusal.{MemoryRefusal}
use Rattle.cells.specs.declared.MemoryRefusal.TheVariants.{Outside}
use Rattle.cells.specs.Memory.{Cells, Within, Sound}

abbrev pub code_of : Colour → ℕ
code_of Blue = 0
code_of White = 1
code_of Grey = 2
code_of Black = 3

-- the colour of a code, which counts modulo 4
abbrev pub tint : ℕ → Colour
tint b = cond (b % 4 == 0) Blue (cond (b % 4 == 1) White (cond (b % 4 == 2) Grey Black))

abbrev pub memory_refusal_number : MemoryRefusal → ℕ
memory_refusal_number Outside = 9

-- the link that a word says in a table of n cells: empty, if it names none of them
abbrev pub named : ℕ → ℕ → Option ℕ
named n w = cond (nat_lt w n) (Some w) None

-- the word that is stored for a link
abbrev pub word_of : Option ℕ → ℕ
word_of None = 65535
word_of (Some x) = x

-- n cells with L links each, from the colour code of each cell and the word of each of its links
abbrev pub table_of : ℕ → ℕ → (ℕ → ℕ) → (ℕ → ℕ → ℕ) → Cells
table_of L n code word = record {
  size = n;
  colour = λ c. cond (nat_lt c n) (tint (code c)) White;
  link = λ c i. cond (nat_lt c n && nat_lt i L) (named n (word c i)) None;
}

named_within : (n w : ℕ) → Within n (named n w)
named_within n w = cond_both (nat_lt w n) (Some w) None (Within n) (λ e. ltb-true w n e) (λ _. tt)

pub table_sound : (L n : ℕ) (code : ℕ → ℕ) (word : ℕ → ℕ → ℕ) → n ≤ 4097 → Sound L (table_of L n code word)
table_sound L n code word small = record {
  small = small;
  within = λ c i. cond_both (nat_lt c n && nat_lt i L) (named n (word c i)) None (Within n) (λ _. named_within n (word c i)) (λ _. tt);
  no_cell = λ c past. cond-false (nat_lt c n) (tint (code c)) White (le-ltb c n past);
  no_link = λ c i past. cond-false (nat_lt c n && nat_lt i L) (named n (word c i)) None
      (⊎_elim (λ h. and_left (nat_lt c n) (nat_lt i L) (le-ltb c n h)) (λ h. and_right (nat_lt c n) (nat_lt i L) (le-ltb i L h)) past);
}
