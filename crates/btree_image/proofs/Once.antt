-- No page is asked for twice: a level's pages ascend, and those of a level stand before those of the levels above.
use Rattle.std.proofs.Common.{◌≢◌, ℕ, zero, suc, ◌+◌, ◌-◌, ◌<◌, ◌≤◌, max, List, [], ◌∷◌, ◌++◌, map, get_or, All, AllPairs, arith}
use Rattle.std.proofs.lemmas.List.Elements.{All-append, All-map}
use Rattle.btree_image.specs.declared.runs.Run.{Run}
use Rattle.tree_shape.specs.Shape.{level_size, level_start, numbers}
use Rattle.btree_image.specs.Rows.{Layout}
use Rattle.btree_image.specs.Image.{shape_of}
use Rattle.btree_image.specs.Pages.{page_number}
use Rattle.btree_image.specs.Walks.{places_in, next_behind, walk}
use Rattle.tree_shape.specs.Laws.Numbers.{get_or-numbers, length-numbers}
use Rattle.btree_image.proofs.Places.{behind-some, behind-least}
use Rattle.btree_image.proofs.MetRanges.{within}

pairs-cons : {X : Type 0} (R : X → X → Type 0) (x : X) (xs : List X) → All (R x) xs → AllPairs R xs → AllPairs R (x ∷ xs)
pairs-cons R x xs h p zero zero d lt k = absurd (omega arith)
pairs-cons R x xs h p zero (suc j) d lt k = h j d (omega arith)
pairs-cons R x xs h p (suc i) zero d lt k = absurd (omega arith)
pairs-cons R x xs h p (suc i) (suc j) d lt k = p i j d (omega arith) (omega arith)

pub pairs-append : {X : Type 0} (R : X → X → Type 0) (xs ys : List X) → AllPairs R xs → AllPairs R ys → All (λ x. All (R x) ys) xs → AllPairs R (xs ++ ys)
pairs-append R [] ys p q h = q
pairs-append R (x ∷ xs) ys p q h =
    pairs-cons R x (xs ++ ys) (All-append (R x) xs ys (λ i d k. p 0 (suc i) d (omega arith) (omega arith)) (h 0 x (omega arith)))
    (pairs-append R xs ys (λ i j d lt k. p (suc i) (suc j) d (omega arith) (omega arith)) q (λ i d k. h (suc i) d (omega arith)))

without-second : {X : Type 0} (R : X → X → Type 0) (x y : X) (zs : List X) → AllPairs R (x ∷ (y ∷ zs)) → AllPairs R (x ∷ zs)
without-second R x y zs p zero zero d lt k = absurd (omega arith)
without-second R x y zs p zero (suc j) d lt k = p 0 (suc (suc j)) d (omega arith) (omega arith)
without-second R x y zs p (suc i) zero d lt k = absurd (omega arith)
without-second R x y zs p (suc i) (suc j) d lt k = p (suc (suc i)) (suc (suc j)) d (omega arith) (omega arith)

head-front : {X : Type 0} (R : X → X → Type 0) (x : X) (xs ys : List X) → AllPairs R (x ∷ (xs ++ ys)) → All (R x) xs
head-front R x [] ys p i d k = absurd (omega arith)
head-front R x (y ∷ xs) ys p zero d k = p 0 1 d (omega arith) (omega arith)
head-front R x (y ∷ xs) ys p (suc i) d k = head-front R x xs ys (without-second R x y (xs ++ ys) p) i d (omega arith)

pub pairs-front : {X : Type 0} (R : X → X → Type 0) (xs ys : List X) → AllPairs R (xs ++ ys) → AllPairs R xs
pairs-front R [] ys p = λ i j d lt k. absurd (omega arith)
pairs-front R (x ∷ xs) ys p = pairs-cons R x xs (head-front R x xs ys p) (pairs-front R xs ys (λ i j d lt k. p (suc i) (suc j) d (omega arith) (omega arith)))

pairs-map : (f : ℕ → ℕ) (xs : List ℕ) → ((a b : ℕ) → a < b → f a ≢ f b) → AllPairs (λ a b. a < b) xs → AllPairs (λ a b. a ≢ b) (map f xs)
pairs-map f [] h p = λ i j d lt k. absurd (omega arith)
pairs-map f (x ∷ xs) h p =
    pairs-cons (λ a b. a ≢ b) (f x) (map f xs) (All-map (λ b. f x ≢ b) f xs (λ i d k. h x (get_or xs i d) (p 0 (suc i) d (omega arith) (omega arith))))
    (pairs-map f xs h (λ i j d lt k. p (suc i) (suc j) d (omega arith) (omega arith)))

ascending : (from n : ℕ) → AllPairs (λ a b. a < b) (numbers from n)
ascending from n i j d lt k =
    let all = length-numbers from n in
    let first = get_or-numbers from n i d (omega arith) in
    let second = get_or-numbers from n j d (omega arith) in
    omega arith

walk-bounds : (size : ℕ) (runs : List Run) → All (λ run. run.end ≤ size) runs → (next : ℕ) → All (λ c. next ≤ c) (walk next runs) × All (λ c. c < size) (walk next runs) × AllPairs (λ a b. a < b) (walk next runs)
unfolding walk
walk-bounds size [] h next = (λ i d k. absurd (omega arith), λ i d k. absurd (omega arith), λ i j d lt k. absurd (omega arith))
walk-bounds size (run ∷ runs) h next =
    let places = places_in next run.first run.end in
    let after = next_behind next run.first run.end in
    let rest = walk-bounds size runs (λ i d k. h (suc i) d (omega arith)) after in
    let fits : run.end ≤ size = h 0 run (omega arith) in
    let low : All (λ c. next ≤ c) places = within (λ c. next ≤ c) (max run.first next) (run.end - max run.first next) (λ c f t. omega arith) in
    let high : All (λ c. c < size) places = within (λ c. c < size) (max run.first next) (run.end - max run.first next) (λ c f t. omega arith) in
    let under : All (λ c. c < after) places = within (λ c. c < after) (max run.first next) (run.end - max run.first next) (λ c f t. let e = behind-some next run.first run.end (omega arith) in omega arith) in
    let least = behind-least next run.first run.end in (
      All-append (λ c. next ≤ c) places (walk after runs) low (λ i d k. let more = rest.0 i d k in omega arith),
      All-append (λ c. c < size) places (walk after runs) high rest.1,
      pairs-append (λ a b. a < b) places (walk after runs) (ascending (max run.first next) (run.end - max run.first next)) rest.2
          (λ i d k j e m. let one = under i d k in let two = rest.0 j e m in omega arith),
    )

module _ {T K : Type 0} (l : Layout T K) (first rows level : ℕ) (runs : List Run) (ends : All (λ run. run.end ≤ level_size (shape_of l rows) level) runs) where
  abbrev pages : List ℕ
  pages = map (page_number l first rows level) (walk 0 runs)

  level-once : AllPairs (λ a b. a ≢ b) pages
  level-once = pairs-map (page_number l first rows level) (walk 0 runs) (λ a b lt e. omega arith) (walk-bounds (level_size (shape_of l rows) level) runs ends 0).2

  level-low : All (λ page. first + level_start (shape_of l rows) level ≤ page) pages
  level-low = All-map (λ page. first + level_start (shape_of l rows) level ≤ page) (page_number l first rows level) (walk 0 runs) (λ i d k. omega arith)

  level-high : All (λ page. page < first + level_start (shape_of l rows) (suc level)) pages
  unfolding level_start
  level-high = All-map (λ page. page < first + level_start (shape_of l rows) (suc level)) (page_number l first rows level) (walk 0 runs)
      (λ i d k. let inside = (walk-bounds (level_size (shape_of l rows) level) runs ends 0).1 i d k in omega arith)

  -- the pages of a level behind those of the levels above
  pub still-once : (seen : List ℕ) → AllPairs (λ a b. a ≢ b) seen → All (λ page. first + level_start (shape_of l rows) (suc level) ≤ page) seen → AllPairs (λ a b. a ≢ b) (seen ++ pages)
  still-once seen once above = pairs-append (λ a b. a ≢ b) seen pages once level-once (λ i d k j e m. λ same. let one = above i d k in let two = level-high j e m in omega arith)

  pub still-above : (seen : List ℕ) → All (λ page. first + level_start (shape_of l rows) (suc level) ≤ page) seen → All (λ page. first + level_start (shape_of l rows) level ≤ page) (seen ++ pages)
  unfolding level_start
  still-above seen above = All-append (λ page. first + level_start (shape_of l rows) level ≤ page) seen pages (λ i d k. let one = above i d k in omega arith) level-low
