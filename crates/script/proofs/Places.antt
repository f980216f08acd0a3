-- What a reader has left after it has read n more bytes.
use Rattle.std.proofs.Common.{◌≡◌, ℕ, ◌+◌, drop, sym, ap, ◌∙◌}
use Rattle.std.proofs.lemmas.List.{drop-drop}
use Rattle.script.specs.declared.reader.Reader.{Reader}
use Rattle.script.specs.Places.{rest, Moved}

pub rest_moved : {n : ℕ} {a b : Reader} → Moved n a b → rest b ≡ drop n (rest a)
rest_moved {n} {a} {b} m =
    ap (λ p. drop p b.text.now) m.place ∙ ap (drop (a.place + n)) m.text ∙ sym (drop-drop n a.place a.text.now)
