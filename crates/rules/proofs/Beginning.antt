-- The invariant holds of what an accepted set up leaves.
use Rattle.std.proofs.Common.{◌≡◌, ℕ, zero, suc, ◌+◌, ◌-◌, ◌<◌, ◌≤◌, true, false, cond, ◌&&◌, ltb, leb, ◌≢◌, ◌⊎◌, List, [], ◌∷◌, length, Some, None, Ok, Err, Result, sym, refl, ap, ◌∙◌, subst, inl, inr, ⊎_elim, arith}
use Rattle.std.proofs.lemmas.Bool.Decides.{nat_tests}
use Rattle.std.proofs.lemmas.Bool.{cond-true, cond_both, lt-ltb}
use Rattle.cells.specs.declared.Colour.TheVariants.{Blue, White, Black}
use Rattle.cells.specs.Memory.{Sound as SoundMemory}
use Rattle.bags.specs.Holding.{Hold, Fair, Sound as SoundBag, one, copies, holding, has_room}
use Rattle.rules.specs.declared.Refusal.{Refusal}
use Rattle.rules.specs.State.{Task, State, Outcome, accepted, by}
use Rattle.rules.specs.SettingUp.{blank, rising, begun, fit_bags, set_up, set_up_checks}
use Rattle.rules.specs.Reach.{Names}
use Rattle.rules.specs.Law.{JustSetUp}
use Rattle.rules.proofs.Checked.{need_passed}
use Rattle.rules.proofs.Ways.{reached_have}
use Rattle.rules.proofs.Accounts.{Account, blueness}
use Rattle.rules.proofs.Words.{Made, made_by, is_shaded, Shaded, UsedRoot, directory, register, kept, filled, Used, Busy, in_hand, in_cache, SecondHalf, mark, scan}
use Rattle.rules.proofs.Places.{in_rest}
use Rattle.rules.proofs.Invariant.{MarksSecond, Invariant}

-- what the checks of a set up found
pub record Fits (b : State) (d : ℕ) : Type 0 where
  pub some : 0 < b.cells.size
  pub few : b.cells.size ≤ 4096
  pub first : 0 < d
  pub within : d ≤ b.cells.size
  pub bags : fit_bags b d ≡ true

fits_checked : (b : State) (d : ℕ) → Ok tt ≡ set_up_checks d b → Fits b d
fits_checked b d e =
    let size = need_passed (ltb 0 b.cells.size && leb b.cells.size 4096) _ _ tt e in
    let directory = need_passed (ltb 0 d && (leb d 64 && leb d b.cells.size)) _ _ tt size.1 in
    let bags = need_passed (fit_bags b d) _ _ tt directory.1 in
    let s = size.0 in
    let t = directory.0 in
    record { some = grind (arith, nat_tests); few = grind (arith, nat_tests); first = grind (arith, nat_tests); within = grind (arith, nat_tests); bags = bags.0 }

pub begun_by : (b s : State) (d : ℕ) → set_up d b ≡ accepted 0 s → (s ≡ begun b d) × Fits b d
begun_by b s d e = go (set_up_checks d b) refl e
  where
    go : (r : Result (Unit {0}) Refusal) → r ≡ set_up_checks d b → by b r (λ _. accepted 0 (begun b d)) ≡ accepted 0 s → (s ≡ begun b d) × Fits b d
    go (Ok tt) c f = (sym (ap (λ (o : Outcome). o.after) f), fits_checked b d c)
    go (Err x) c f =
        let g : ◌≡◌ {A = Result ℕ Refusal} (Err x) (Ok 0) = ap (λ (o : Outcome). o.answer) f in
        cc

-- a free list that was empty, with k numbers put from d on
module _ (h : Hold) (sound : SoundBag h) (empty : length h.members ≡ 0) (d : ℕ) where
  rising_manner : (k : ℕ) → ((rising h d k).manner ≡ h.manner) × ((rising h d k).room ≡ h.room)
  rising_manner zero = (refl, refl)
  rising_manner (suc k) =
      cond_both (has_room (rising h d k)) _ _ (λ (x : Hold). (x.manner ≡ h.manner) × (x.room ≡ h.room)) (λ _. rising_manner k) (λ _. rising_manner k)

  rising_step : (k : ℕ) → k < h.room → length (rising h d k).members ≡ k → rising h d (suc k) ≡ holding (rising h d k) ((rising h d k).manner.added (rising h d k).members (d + k))
  rising_step k few count = cond-true _ _ _ (lt-ltb (length (rising h d k).members) (rising h d k).room (omega (arith, count, (rising_manner k).1)))

  rising_fair : (k : ℕ) → Fair (rising h d k).manner
  rising_fair k = subst Fair (sym (rising_manner k).0) sound.fair

  rising_count : (k : ℕ) → k ≤ h.room → length (rising h d k).members ≡ k
  rising_count zero few = empty
  rising_count (suc k) few =
      let before = rising_count k (omega arith) in
      ap (λ (x : Hold). length x.members) (rising_step k few before) ∙ (rising_fair k).added_count (rising h d k).members (d + k) ∙ ap suc before

  no_copies : (xs : List ℕ) → length xs ≡ 0 → (c : ℕ) → copies xs c ≡ 0
  no_copies [] e c = refl
  no_copies (x ∷ xs) e c = absurd (omega arith)

  pub rising_copies : (k : ℕ) → k ≤ h.room → (c : ℕ) → copies (rising h d k).members c ≡ cond (leb d c && ltb c (d + k)) 1 0
  rising_copies zero few c = let none = no_copies h.members empty c in grind (arith, nat_tests)
  rising_copies (suc k) few c =
      let before = rising_copies k (omega arith) c in
      let more = (rising_fair k).added_copies (rising h d k).members (d + k) c in
      let is : copies (rising h d (suc k)).members c ≡ one (d + k) c + copies (rising h d k).members c =
      ap (λ (x : Hold). copies x.members c) (rising_step k few (rising_count k (omega arith))) ∙ more in
      is ∙ grind (arith, nat_tests)

blank_told : (n d c : ℕ) → d ≤ n → cond (leb d c && ltb c (d + (n - d))) 1 0 ≡ blueness ((blank n d).colour c)
blank_told n d c le =
    let all : d + (n - d) ≡ n = omega arith in
    ap (λ k. cond (leb d c && ltb c k) 1 0) all
    ∙ elim (leb d c && ltb c n) as (λ b. cond b 1 0 ≡ blueness (cond b Blue White)) [ true ↦ refl | false ↦ refl ]

blank_colour : (n d c : ℕ) → ((blank n d).colour c ≡ Blue) ⊎ ((blank n d).colour c ≡ White)
blank_colour n d c = elim (leb d c && ltb c n) as (λ b. (cond b Blue White ≡ Blue) ⊎ (cond b Blue White ≡ White)) [ true ↦ inl refl | false ↦ inr refl ]

module _ (b : State) (d : ℕ) (fit : Fits b d) (memory : SoundMemory b.links b.cells) (links : 1 ≤ b.links) (free : SoundBag b.free) (cache : SoundBag b.cache) where
  no_tasks : {A : Type 0} {t : Task} → None ≡ Some t → A
  no_tasks e = cc

  no_links : {A : Type 0} {c : ℕ} → None ≡ Some c → A
  no_links e = cc

  nothing_made : {x : ℕ} → ¬ (Made (begun b d) x)
  nothing_made (made_by m settled p q) = no_tasks p

  not_shaded : (x : ℕ) → ¬ (Shaded (begun b d) x)
  not_shaded x e = ⊎_elim
      (λ (q : (blank b.cells.size d).colour x ≡ Blue). let f : false ≡ true = sym (ap is_shaded q) ∙ e in cc)
      (λ (q : (blank b.cells.size d).colour x ≡ White). let f : false ≡ true = sym (ap is_shaded q) ∙ e in cc)
      (blank_colour b.cells.size d x)

  not_black : (x : ℕ) → (blank b.cells.size d).colour x ≢ Black
  not_black x e = not_shaded x (ap is_shaded e)

  empty : length b.free.members ≡ 0
  empty = let bags = fit.bags in grind (arith, nat_tests)

  cache_empty : length b.cache.members ≡ 0
  cache_empty = let bags = fit.bags in grind (arith, nat_tests)

  free_room : b.cells.size - d ≤ b.free.room
  free_room = let bags = fit.bags in grind (arith, nat_tests)

  cache_room : 0 < b.cache.room
  cache_room = let bags = fit.bags in grind (arith, nat_tests)

  account_begun : Account (begun b d)
  account_begun c =
      let held = rising_copies b.free free empty d (b.cells.size - d) free_room c in
      let told = blank_told b.cells.size d c fit.within in
      omega arith

  blank_sound : SoundMemory b.links (blank b.cells.size d)
  blank_sound = record { small = memory.small; within = λ c i. tt; no_cell = λ c g. grind (arith, nat_tests); no_link = λ c i e. refl }

  -- only the directory can be touched
  used_begun : (c : ℕ) → Used (begun b d) c → c < d
  used_begun c = reached_have (λ x. x < d) roots edges
    where
      roots : (x : ℕ) → UsedRoot (begun b d) x → x < d
      roots x (directory l) = l
      roots x (register m j p q) = no_tasks p
      roots x (kept k) = absurd (not_shaded x k.0)
      roots x (filled i k e) = no_links e

      edges : (x y : ℕ) → Names (begun b d).cells x y → x < d → y < d
      edges x y (i, e) l = no_links e

  nothing_traced : ¬ (Busy (begun b d))
  nothing_traced (in_hand h) = h refl
  nothing_traced (in_cache l) = omega (arith, cache_empty)

  no_member : (c : ℕ) → ¬ (0 < copies b.cache.members c)
  no_member c l = omega (arith, no_copies b.free free empty d b.cache.members cache_empty c)

  pub begins : Invariant (begun b d)
  begins =
      let keeps = rising_manner b.free free empty d (b.cells.size - d) in
      record {
        structure = record {
          some = fit.first;
          within = fit.within;
          memory = blank_sound;
          links = links;
          free_fair = subst Fair (sym keeps.0) free.fair;
          cache_fair = cache.fair;
          free_room = omega (arith, keeps.1, free_room, fit.within);
          cache_room = cache_room;
          slots = λ m g. refl;
          registers = λ m j t p g. no_tasks p;
          pools = λ m t p. no_tasks p;
          account = account_begun;
        };
        control = record {
          places = in_rest;
          nothing_traced = λ n k. nothing_traced;
          statuses = λ m t p. no_tasks p;
          scan_looked = λ e u k q. cc;
        };
        works = record {
          cell_held = λ m x i y step t p q. no_tasks p;
          value_held = λ m x i c step t p q. no_tasks p;
          link_there = λ m x i y step t p q. no_tasks p;
          grey_step = λ m x i y t p q. no_tasks p;
          warn_step = λ m x i old y t p q. no_tasks p;
          made_apart = λ x k. absurd (nothing_made k);
          made_once = λ m k x a c t u p q r w. no_tasks p;
        };
        safe = λ c u.
            let near = used_begun c u in
            let white : (blank b.cells.size d).colour c ≡ White = grind (arith, nat_tests) in
            (omega (arith, fit.within), λ blue. cc, nothing_made);
        new_cells = record {
          unsettled = λ m x t p q n. no_tasks p;
          settled = λ m x t p q n. no_tasks p;
          in_mark = λ m x a t p q e g. no_tasks p;
          in_scan = λ m x a t p q e g. no_tasks p;
        };
        sweeps = record {
          cached = λ c l. absurd (no_member c l);
          in_hand = λ h e. cc;
          rest_black = λ e x q. absurd (not_black x q);
          clear_black = λ e x q. absurd (not_black x q);
          behind = λ e x w q. absurd (not_black x q);
          ahead_used = λ e x u q. cc;
          ahead_made = λ e x k q. absurd (nothing_made k);
          new_value = λ m x i c t p q n. no_tasks p;
          directory = λ e c l h. cc;
        };
        first_half = λ h. let e = h.0 in cc;
        Cut = λ x i. false;
        second_half = rests;
      }
    where
      rests : SecondHalf (begun b d) → MarksSecond (begun b d) (λ x i. false)
      rests (mark e n) = cc
      rests (scan e) = cc

-- of a memory just set up
pub just_begun : (s : State) → JustSetUp s → Invariant s
just_begun s began =
    let found = begun_by began.before s began.d began.accepts in
    subst Invariant (sym found.0) (begins began.before began.d found.1 began.memory began.few.0 began.free began.cache)
