-- Ways from roots: where roots and edges lead into another reach, so does every way.
use Rattle.std.proofs.Common.{ℕ}
use Rattle.rules.specs.Reach.{From, start, along}

pub lead_into : {root root' : ℕ → Type 0} {edge edge' : ℕ → ℕ → Type 0}
    → ((c : ℕ) → root c → From root' edge' c) → ((x c : ℕ) → edge x c → From root' edge' x → From root' edge' c)
    → {c : ℕ} → From root edge c → From root' edge' c
lead_into roots edges (start {c} r) = roots c r
lead_into roots edges (along {x} {c} p e) = edges x c e (lead_into roots edges p)

-- what holds of the roots and is kept along edges holds of all that is reached
pub reached_have : {root : ℕ → Type 0} {edge : ℕ → ℕ → Type 0} (P : ℕ → Type 0)
    → ((c : ℕ) → root c → P c) → ((x c : ℕ) → edge x c → P x → P c) → {c : ℕ} → From root edge c → P c
reached_have P roots edges (start {c} r) = roots c r
reached_have P roots edges (along {x} {c} p e) = edges x c e (reached_have P roots edges p)

-- the same where it helps to know that the edge's source was reached
pub lead_on : {root root' : ℕ → Type 0} {edge edge' : ℕ → ℕ → Type 0}
    → ((c : ℕ) → root c → From root' edge' c) → ((x c : ℕ) → From root edge x → edge x c → From root' edge' x → From root' edge' c)
    → {c : ℕ} → From root edge c → From root' edge' c
lead_on roots edges (start {c} r) = roots c r
lead_on roots edges (along {x} {c} p e) = edges x c p e (lead_on roots edges p)
