-- Opening makes a board keep what it should, and every call leaves it so.
use Rattle.std.proofs.Common.{◌≡◌, ℕ, ◌+◌, ◌≤◌, Bool, true, false, List, [], ◌∷◌, ◌++◌, map, length, sym, refl, ap, subst, arith}
use Rattle.std.specs.List.{AllByRecursion}
use Rattle.std.proofs.lemmas.List.{length_push, map-append}
use Rattle.std.proofs.ByRecursion.{All-push, All-weaker}
use Rattle.window.specs.Meaning.{Model, Keeps}
use Rattle.sketch.specs.Laws.{Faithful}
use Rattle.sketch.specs.Telling.{ToldFrom}
use Rattle.sketch.proofs.TellLaws.{told_faithful}
use Rattle.daybook.specs.Book.{Book, Play, Call, enrol, play, ask, range, list, Serial, key_in, key_of, Enrolled, keyed, noted, empty_book}
use Rattle.daybook.specs.Boards.{State}
use Rattle.daybook.specs.Promises.{Guarantee}
use Rattle.daybook.specs.Runs.{Opened, Enrols, Plays, Step, History, book_of, Run, opened, next, Lawful}
use Rattle.daybook.proofs.Keys.{key_stays}
use Rattle.daybook.proofs.Kept.{Kept}
use Rattle.daybook.proofs.Holding.{law_holds}

-- two functions that agree on what P holds of map alike
map_same : {X Y : Type 0} (P : X → Type 0) (f g : X → Y) (xs : List X) → AllByRecursion P xs → ((x : X) → P x → f x ≡ g x) → map f xs ≡ map g xs
map_same P f g [] a h = refl
map_same P f g (x ∷ xs) a h = let here = h x a.0 in let rest = map_same P f g xs a.1 h in cc

module _ {C : Type 0} (m : Model C) where
  open_keeps : (σ : State C) → Opened m σ → Kept m σ empty_book
  open_keeps σ o = record { sound = o.sound; registered = o.register; counted = o.accepted; room = omega arith; known = tt; past = tt; faithful = o.cells }

  -- a state whose parts are known
  same_state : (σ σ' : State C) → σ'.shape ≡ σ.shape → σ'.cells ≡ σ.cells → σ'.register ≡ σ.register → σ'.clock ≡ σ.clock → σ'.accepted ≡ σ.accepted → σ' ≡ σ
  same_state σ σ' a b c d e = λ i. record { shape = a i; cells = b i; register = c i; clock = d i; accepted = e i }

  -- the keys of the plays do not change when a serial is enrolled
  keyed_enrolled : (book : Book) (u : Serial) → AllByRecursion (λ p. Enrolled book p.serial) book.plays → keyed (noted book (enrol u) true) ≡ keyed book
  keyed_enrolled book u known =
      map_same (λ p. Enrolled book p.serial) (λ p. record { key = key_of (noted book (enrol u) true) p.serial; stamp = p.stamp }) (λ p. record { key = key_of book p.serial; stamp = p.stamp }) book.plays known
      (λ p h. let e = key_stays book.enrolled u p.serial h in ap (λ x. record { key = x; stamp = p.stamp }) e)

  enrol_keeps : (σ σ' : State C) (book : Book) (u : Serial) → Kept m σ book → Enrols σ u σ' → Kept m σ' (noted book (enrol u) true)
  enrol_keeps σ σ' book u kept e =
      let σ'' : State C = record { shape = σ.shape; cells = σ.cells; register = σ.register ++ u ∷ []; clock = σ.clock; accepted = σ.accepted } in
      let same : σ' ≡ σ'' = same_state σ'' σ' e.shape e.cells e.register e.clock e.accepted in
      let more = length_push book.enrolled u in
      let n = ap length kept.registered in
      let after : Kept m σ'' (noted book (enrol u) true) = record {
        sound = kept.sound;
        registered = ap (λ l. l ++ u ∷ []) kept.registered;
        counted = kept.counted;
        room = omega (arith, e.room);
        known = All-weaker (λ p. Enrolled book p.serial) (λ p. Enrolled (noted book (enrol u) true) p.serial) (λ p l. omega (arith, key_stays book.enrolled u p.serial l)) book.plays kept.known;
        past = kept.past;
        faithful = subst (Faithful m σ.shape σ.cells) (sym (keyed_enrolled book u kept.known)) kept.faithful;
      } in
      subst (λ x. Kept m x (noted book (enrol u) true)) (sym same) after

  play_keeps : (σ σ' : State C) (book : Book) (u : Serial) (t : ℕ) → Kept m σ book → Plays m σ u t σ' → Kept m σ' (noted book (play u t) true)
  play_keeps σ σ' book u t kept e =
      let σ'' : State C = record { shape = σ.shape; cells = σ'.cells; register = σ.register; clock = t; accepted = σ.accepted + 1 } in
      let same : σ' ≡ σ'' = same_state σ'' σ' e.shape refl e.register e.clock e.accepted in
      let p : Play = record { serial = u; stamp = t } in
      let n = ap length kept.registered in
      let key : key_in σ.register u ≡ key_of book u = ap (λ l. key_in l u) kept.registered in
      let told : ToldFrom m σ.shape (key_of book u) t 0 σ.cells σ'.cells = subst (λ x. ToldFrom m σ.shape x t 0 σ.cells σ'.cells) key e.told in
      let pushed : keyed (noted book (play u t) true) ≡ keyed book ++ (record { key = key_of book u; stamp = t }) ∷ [] = map-append (λ (q : Play). record { key = key_of book q.serial; stamp = q.stamp }) book.plays (p ∷ []) in
      let after : Kept m σ'' (noted book (play u t) true) = record {
        sound = kept.sound;
        registered = kept.registered;
        counted = omega (arith, kept.counted, length_push book.plays p);
        room = kept.room;
        known = All-push (λ p. Enrolled book p.serial) book.plays p kept.known (omega (arith, e.known));
        past = All-push (λ p. p.stamp ≤ t) book.plays p (All-weaker (λ p. p.stamp ≤ σ.clock) (λ p. p.stamp ≤ t) (λ p l. omega (arith, e.in_time)) book.plays kept.past) (omega arith);
        faithful = subst (Faithful m σ.shape σ'.cells) (sym pushed) (told_faithful m σ.shape kept.sound (key_of book u) t σ.cells σ'.cells told (keyed book) kept.faithful);
      } in
      subst (λ x. Kept m x (noted book (play u t) true)) (sym same) after

  left_keeps : (σ σ' : State C) (book : Book) → Kept m σ book → σ' ≡ σ → Kept m σ' book
  left_keeps σ σ' book kept e = subst (λ x. Kept m x book) (sym e) kept

  step_keeps : (σ σ' : State C) (book : Book) (call : Call) (accepted : Bool) → Kept m σ book → Step m σ call accepted σ' → Kept m σ' (noted book call accepted)
  step_keeps σ σ' book (enrol s) true kept e = enrol_keeps σ σ' book s kept e
  step_keeps σ σ' book (enrol s) false kept e = left_keeps σ σ' book kept e
  step_keeps σ σ' book (play s t) true kept e = play_keeps σ σ' book s t kept e
  step_keeps σ σ' book (play s t) false kept e = left_keeps σ σ' book kept e
  step_keeps σ σ' book (ask s t v) accepted kept e = left_keeps σ σ' book kept e
  step_keeps σ σ' book (range a b t v) accepted kept e = left_keeps σ σ' book kept e
  step_keeps σ σ' book (list g t v) accepted kept e = left_keeps σ σ' book kept e

  run_keeps : {σ : State C} {h : History} → Run m σ h → Kept m σ (book_of h)
  run_keeps (opened {σ} o) = open_keeps σ o
  run_keeps (next {σ} {σ'} {h} call accepted run e) = step_keeps σ σ' (book_of h) call accepted (run_keeps run) e

  -- after any calls a board holds against their day book
  pub run_holds : Keeps m → (σ : State C) (h : History) → Run m σ h → Guarantee m σ (book_of h)
  run_holds keeps σ h run = law_holds m keeps σ (book_of h) (run_keeps run)

  -- a call that makes one step is lawful
  pub step_lawful : Keeps m → (σ σ' : State C) (call : Call) (accepted : Bool) → Step m σ call accepted σ' → Lawful m σ call accepted σ'
  step_lawful keeps σ σ' call accepted step h run = let more = next call accepted run step in (more, run_holds keeps σ' ((call, accepted) ∷ h) more)
