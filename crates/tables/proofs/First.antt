-- Laws of the first refusal, and the invariant of a loop that looks for it.
use mathlib.Core.Logic.{◌↔◌, ◌≢◌, ⊎_elim}
use mathlib.Core.Path.{◌≡◌, refl, sym, ap, ◌∙◌, subst}
use Prim.Native.Nat.{ℕ, zero, suc, ◌+◌, ◌*◌, ◌/◌, ◌%◌, ◌≤◌, ◌<◌}
use native.Mathlib.Nat.{not-suc-le-zero, le_of_suc-le-suc, eq-or-lt_of_le, add-zero, add-suc, zero-mul, suc-mul}
use native.Mathlib.Numerals.{add-one}
use native.Mathlib.Omega.{arith}
use lib.Arith.{digits_div, digits_mod}
use Rattle.tables.specs.Answer.{Answer}
use Rattle.tables.specs.Answer.{Accepted, Refused}
use Rattle.tables.specs.Answer.{or_else, refusal, Small}
use Rattle.tables.specs.First.{first, first_node, first_place}
use Rattle.tables.proofs.Answers.{Refuses, refuses_is, or_else_accepts, or_else_refuses, or_else_right, or_else_assoc, refusal_accepts, refusal_refuses, small_refusal, small_or_else}

-- ---- by one index

pub first_accepts : (n : ℕ) (answer : ℕ → Answer) → (first n answer ≡ Accepted) ↔ ((i : ℕ) → i < n → answer i ≡ Accepted)
unfolding first
first_accepts zero answer = (λ e i l. absurd (not-suc-le-zero l), λ h. refl)
first_accepts (suc n) answer =
    let r = first_accepts n answer in
    let b = or_else_accepts (first n answer) (answer n) in (
      λ e i l. ⊎_elim (λ q. ap answer q ∙ (b.0 e).1) (λ k. r.0 (b.0 e).0 i k) (eq-or-lt_of_le (le_of_suc-le-suc l)),
      λ h. b.1 (r.1 (λ i l. h i (omega arith)), h n (omega arith)),
    )

-- where none of n refuses, and answer n, which is a, does not either
pub first_more : (n : ℕ) (answer : ℕ → Answer) (a : Answer) → first n answer ≡ Accepted → a ≡ answer n → a ≡ Accepted → first (n + 1) answer ≡ Accepted
unfolding first
first_more n answer a e q h =
    let s : first (suc n) answer ≡ Accepted = cc in
    rw add-one s

-- index i is the first of n whose answer refuses, and a is that answer
pub record FirstRefusal (n : ℕ) (answer : ℕ → Answer) (i : ℕ) (a : Answer) : Type 0 where
  pub within : i < n
  pub is : answer i ≡ a
  pub before : (j : ℕ) → j < i → answer j ≡ Accepted

-- a refusal among the first m is the answer of any n past them
first_stays : (m n : ℕ) (answer : ℕ → Answer) → m ≤ n → Refuses (first m answer) → first n answer ≡ first m answer
unfolding first
first_stays m zero answer h r = let e : zero ≡ m = omega arith in ap (λ (k : ℕ). first k answer) e
first_stays m (suc n) answer h r =
    ⊎_elim (λ e. ap (λ (k : ℕ). first k answer) (sym e))
    (λ l.
    let e : first n answer ≡ first m answer = first_stays m n answer (le_of_suc-le-suc l) r in
    or_else_refuses (first n answer) (answer n) (subst Refuses (sym e) r) ∙ e)
    (eq-or-lt_of_le h)

pub first_here : (n : ℕ) (answer : ℕ → Answer) (a : Answer) (i : ℕ) → Refuses a → FirstRefusal n answer i a → first n answer ≡ a
unfolding first
first_here n answer a i r f =
    let e : first i answer ≡ Accepted = (first_accepts i answer).1 f.before in
    let q : answer i ≡ a = f.is in
    let u : first (suc i) answer ≡ a = cc in
    first_stays (suc i) n answer f.within (subst Refuses (sym u) r) ∙ u

-- where none of the first i refuses, and answer i, which is a, does
pub first_stops : (n i : ℕ) (answer : ℕ → Answer) (a : Answer) → i < n → first i answer ≡ Accepted → a ≡ answer i → Refuses a → a ≡ first n answer
first_stops n i answer a l e q r =
    sym (first_here n answer a i r (record { within = l; is = sym q; before = (first_accepts i answer).0 e }))

first_found : (n : ℕ) (answer : ℕ → Answer) (a : Answer) → Refuses a → first n answer ≡ a → (i : ℕ) × FirstRefusal n answer i a
unfolding first
first_found zero answer a r e = absurd (subst Refuses (sym e) r)
first_found (suc n) answer a r e = by (first n answer) refl (λ q. first_found n answer a r q)
  where
    by : (b : Answer) → first n answer ≡ b → (first n answer ≡ a → (i : ℕ) × FirstRefusal n answer i a) → (i : ℕ) × FirstRefusal (suc n) answer i a
    by Accepted q rec = (n, record { within = omega arith; is = cc; before = (first_accepts n answer).0 q })
    by (Refused number row node) q rec =
        let p = rec (sym (or_else_refuses (first n answer) (answer n) (refuses_is (first n answer) number row node q)) ∙ e) in
        (p.0, record { within = omega (arith, p.1.within); is = p.1.is; before = p.1.before })

-- it refuses with exactly the answer of the first index that refuses
pub first_refuses : (n : ℕ) (answer : ℕ → Answer) (a : Answer) → Refuses a → (first n answer ≡ a) ↔ ((i : ℕ) × FirstRefusal n answer i a)
first_refuses n answer a r = (first_found n answer a r, λ p. first_here n answer a p.0 r p.1)

pub first_same : (n : ℕ) (f g : ℕ → Answer) → ((i : ℕ) → i < n → f i ≡ g i) → first n f ≡ first n g
unfolding first
first_same zero f g h = refl
first_same (suc n) f g h =
    let e : first n f ≡ first n g = first_same n f g (λ i l. h i (omega arith)) in
    let q : f n ≡ g n = h n (omega arith) in
    cc

-- a is what a call answered for a part: so it is what the whole has there
pub first_agrees : (m n : ℕ) (f g : ℕ → Answer) (a : Answer) → a ≡ first m f → m ≡ n → ((i : ℕ) → i < n → f i ≡ g i) → a ≡ first n g
first_agrees m n f g a e q h = e ∙ ap (λ (k : ℕ). first k f) q ∙ first_same n f g h

first_add : (n m : ℕ) (answer : ℕ → Answer) → first (n + m) answer ≡ or_else (first n answer) (first m (λ j. answer (n + j)))
unfolding first
first_add n zero answer = ap (λ (k : ℕ). first k answer) (add-zero n) ∙ sym (or_else_right (first n answer))
first_add n (suc m) answer =
    ap (λ (k : ℕ). first k answer) (add-suc n m)
    ∙ ap (λ (a : Answer). or_else a (answer (n + m))) (first_add n m answer)
    ∙ or_else_assoc (first n answer) (first m (λ j. answer (n + j))) (answer (n + m))

-- what nested loops find by row, then node, one loop finds by the index row * n + node
pub first_flat : (rows n : ℕ) (answer : ℕ → ℕ → Answer) → first rows (λ k. first n (answer k)) ≡ first (rows * n) (λ j. answer (j / n) (j % n))
unfolding first
first_flat zero n answer = sym (ap (λ (k : ℕ). first k (λ j. answer (j / n) (j % n))) (zero-mul n))
first_flat (suc rows) n answer =
    let flat : ℕ → Answer = λ j. answer (j / n) (j % n) in
    let last : first n (λ i. flat (rows * n + i)) ≡ first n (answer rows) =
    first_same n (λ i. flat (rows * n + i)) (answer rows)
    (λ i l. ap (λ (k : ℕ). answer k ((rows * n + i) % n)) (digits_div rows l) ∙ ap (answer rows) (digits_mod rows l)) in
    sym (ap (λ (k : ℕ). first k flat) (suc-mul rows n) ∙ first_add (rows * n) n flat ∙ rw (last, ← first_flat rows n answer))

-- ---- by the nodes of a row, and by row, then node

pub first_node_accepts : (n row : ℕ) (fault : ℕ → ℕ) → (first_node n row fault ≡ Accepted) ↔ ((i : ℕ) → i < n → fault i ≡ 0)
first_node_accepts n row fault =
    let r = first_accepts n (λ i. refusal (fault i) row i) in
    (λ e i l. (refusal_accepts (fault i) row i).0 (r.0 e i l), λ h. r.1 (λ i l. (refusal_accepts (fault i) row i).1 (h i l)))

pub first_place_accepts : (rows n : ℕ) (fault : ℕ → ℕ → ℕ)
    → (first_place rows n fault ≡ Accepted) ↔ ((k i : ℕ) → k < rows → i < n → fault k i ≡ 0)
first_place_accepts rows n fault =
    let r = first_accepts rows (λ k. first_node n k (fault k)) in
    (λ e k i l m. (first_node_accepts n k (fault k)).0 (r.0 e k l) i m, λ h. r.1 (λ k l. (first_node_accepts n k (fault k)).1 (λ i m. h k i l m)))

pub first_place_same : (rows n : ℕ) (f g : ℕ → ℕ → ℕ) → ((k i : ℕ) → k < rows → i < n → f k i ≡ g k i) → first_place rows n f ≡ first_place rows n g
first_place_same rows n f g h =
    first_same rows (λ k. first_node n k (f k)) (λ k. first_node n k (g k))
    (λ k a. first_same n (λ i. refusal (f k i) k i) (λ i. refusal (g k i) k i) (λ i b. ap (λ (x : ℕ). refusal x k i) (h k i a b)))

-- node i of n is the first that has a fault, x
pub record FirstNodeFault (n : ℕ) (fault : ℕ → ℕ) (x i : ℕ) : Type 0 where
  pub node : i < n
  pub is : fault i ≡ x
  pub some : x ≢ 0
  pub before : (j : ℕ) → j < i → fault j ≡ 0

-- node i of row k is the first place that has a fault, x, by row, then node
pub record FirstFault (rows n : ℕ) (fault : ℕ → ℕ → ℕ) (x k i : ℕ) : Type 0 where
  pub row : k < rows
  pub here : FirstNodeFault n (fault k) x i
  pub before : (h j : ℕ) → h < k → j < n → fault h j ≡ 0

pub first_node_refuses : (n row : ℕ) (fault : ℕ → ℕ) (x k i : ℕ) → (first_node n row fault ≡ Refused x k i) ↔ ((row ≡ k) × FirstNodeFault n fault x i)
first_node_refuses n row fault x k i = (to, λ p. from p.0 p.1)
  where
    to : first_node n row fault ≡ Refused x k i → (row ≡ k) × FirstNodeFault n fault x i
    to e =
        let p = (first_refuses n (λ j. refusal (fault j) row j) (Refused x k i) tt).0 e in
        let q = (refusal_refuses (fault p.0) row p.0 x k i).0 p.1.is in (
          q.2,
          subst (λ (j : ℕ). FirstNodeFault n fault x j) q.3
              (record {
                node = p.1.within;
                is = q.0;
                some = q.1;
                before = λ j l. (refusal_accepts (fault j) row j).0 (p.1.before j l);
              }),
        )

    from : row ≡ k → FirstNodeFault n fault x i → first_node n row fault ≡ Refused x k i
    from e f =
        (first_refuses n (λ j. refusal (fault j) row j) (Refused x k i) tt).1 (
          i,
          record {
            within = f.node;
            is = (refusal_refuses (fault i) row i x k i).1 (f.is, f.some, e, refl);
            before = λ j l. (refusal_accepts (fault j) row j).1 (f.before j l);
          },
        )

pub first_place_refuses : (rows n : ℕ) (fault : ℕ → ℕ → ℕ) (x k i : ℕ) → (first_place rows n fault ≡ Refused x k i) ↔ FirstFault rows n fault x k i
first_place_refuses rows n fault x k i =
    let r = first_refuses rows (λ h. first_node n h (fault h)) (Refused x k i) tt in (
      λ e.
          let p = r.0 e in
          let q = (first_node_refuses n p.0 (fault p.0) x k i).0 p.1.is in
          subst (λ (h : ℕ). FirstFault rows n fault x h i) q.0
          (record {
            row = p.1.within;
            here = q.1;
            before = λ h j l m. (first_node_accepts n h (fault h)).0 (p.1.before h l) j m;
          }),
      λ f.
          r.1 (
            k,
            record {
              within = f.row;
              is = (first_node_refuses n k (fault k) x k i).1 (refl, f.here);
              before = λ h l. (first_node_accepts n h (fault h)).1 (λ j m. f.before h j l m);
            },
          ),
    )

-- ---- a first fault whose number is small fits the number that the C host gets

pub small_first : (n : ℕ) (answer : ℕ → Answer) → ((i : ℕ) → i < n → Small (answer i)) → Small (first n answer)
unfolding first
small_first zero answer h = small_refusal 0 0 0 (omega arith) (omega arith) (omega arith)
small_first (suc n) answer h = small_or_else (first n answer) (answer n) (small_first n answer (λ i l. h i (omega arith))) (h n (omega arith))

pub small_node : (n row : ℕ) (fault : ℕ → ℕ) → n ≤ 256 → row ≤ 65535 → ((i : ℕ) → fault i ≤ 255) → Small (first_node n row fault)
small_node n row fault few b h = small_first n (λ i. refusal (fault i) row i) (λ i l. small_refusal (fault i) row i (h i) b (omega arith))

pub small_place : (rows n : ℕ) (fault : ℕ → ℕ → ℕ) → rows ≤ 65536 → n ≤ 256 → ((k i : ℕ) → fault k i ≤ 255) → Small (first_place rows n fault)
small_place rows n fault short few h =
    small_first rows (λ k. first_node n k (fault k)) (λ k l. small_node n k (fault k) few (omega arith) (λ i. h k i))

-- ---- as a loop's invariant: the first i of n answers accept

pub record Passed (i n : ℕ) (answer : ℕ → Answer) : Type 0 where
  pub bound : i ≤ n
  pub is : first i answer ≡ Accepted

pub passed_begun : (n : ℕ) (answer : ℕ → Answer) → Passed 0 n answer
unfolding first
passed_begun n answer = record { bound = omega arith; is = refl }

pub passed_next : (i n : ℕ) (answer : ℕ → Answer) → Passed i n answer → i < n → answer i ≡ Accepted → Passed (i + 1) n answer
unfolding first
passed_next i n answer p l e =
    record {
      bound = omega arith;
      is = ap (λ (k : ℕ). first k answer) (add-one i) ∙ (or_else_accepts (first i answer) (answer i)).1 (p.is, e);
    }

-- a is the answer as a call gave it
pub passed_told : (i n : ℕ) (answer : ℕ → Answer) (a : Answer) → Passed i n answer → i < n → a ≡ answer i → a ≡ Accepted → Passed (i + 1) n answer
passed_told i n answer a p l e h = passed_next i n answer p l (sym e ∙ h)

pub passed_stop : (i n : ℕ) (answer : ℕ → Answer) (a : Answer) → Passed i n answer → i < n → a ≡ answer i → Refuses a → a ≡ first n answer
passed_stop i n answer a p l e r =
    sym (first_here n answer a i r (record { within = l; is = sym e; before = (first_accepts i answer).0 p.is }))

pub passed_ended : (i n : ℕ) (answer : ℕ → Answer) → Passed i n answer → n ≤ i → Accepted ≡ first n answer
passed_ended i n answer p l =
    let e : i ≡ n = omega arith in
    sym p.is ∙ ap (λ (k : ℕ). first k answer) e

-- ---- nodes: the code counts them as links + 1

pub nodes_stop : (i links : ℕ) (answer : ℕ → Answer) (a : Answer) → Passed i (links + 1) answer → i < links + 1 → a ≡ answer i → Refuses a
    → a ≡ first (suc links) answer
nodes_stop i links answer a p h e r = passed_stop i (links + 1) answer a p h e r ∙ ap (λ (n : ℕ). first n answer) (add-one links)

pub nodes_ended : (i links : ℕ) (answer : ℕ → Answer) → Passed i (links + 1) answer → links + 1 ≤ i → Accepted ≡ first (suc links) answer
nodes_ended i links answer p h = passed_ended i (links + 1) answer p h ∙ ap (λ (n : ℕ). first n answer) (add-one links)
