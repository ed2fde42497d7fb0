-- The threads on which a session was opened, by the lives of rows.
use Rattle.std.proofs.Common.{◌≡◌, ◌∙◌, ℕ, ◌+◌, ◌-◌, ◌<◌, ◌≤◌, true, false, List, length, refl, sym, ap, subst, arith}
use Rattle.std.specs.Prelude.{◌==◌}
use Rattle.std.proofs.lemmas.Bool.{eqb-true}
use Rattle.ep_model.specs.History.{insert_ascending}
use Rattle.ep_guarded.specs.Tied.{thread_of}
use Rattle.ep_live_laws.specs.Tracing.{AreAscending, IsOneOf}
use Rattle.ep_live_laws.proofs.Accounts.{one-here, one-more, one-before}
use Rattle.pt_stream.specs.declared.place.Place.{Place}
use Rattle.pt_stream.specs.State.{place_at, with_place}
use Rattle.pt_stream.specs.End.{AreServed, HasOne, IsServed}
use Rattle.pt_stream.proofs.Lives.{same-row, same-life}
use Rattle.pt_stream.proofs.Places.{by-row, place-here, place-other}

-- The row of a later life has a thread on which the session never was opened.
pub fresh-thread : (rows row life : ℕ) (places : List Place) (opened : List ℕ) → 0 < row → row ≤ rows → (place_at places row).next ≤ life → AreServed rows places opened → IsOneOf opened (thread_of rows (row - 1) life) → ⊥
fresh-thread rows row life places opened some within later served is =
    let s = served.each (thread_of rows (row - 1) life) is in
    let here = same-row rows row s.row life s.life some within s.some s.within s.thread_is in
    let there = same-life rows row s.row life s.life some within s.some s.within s.thread_is in
    let next : (place_at places s.row).next ≡ (place_at places row).next = ap (λ (r : ℕ). (place_at places r).next) (sym here) in
    let up = s.opened in
    absurd (omega (arith, later, there, next, up))

-- The place of a row that is opened in this life.
abbrev pub opened_place : ℕ → Place
opened_place life = record { next = life + 1; is_open = true }

-- What was below the next life of a place is below that of the place after an opening.
still : (rows row life : ℕ) (places : List Place) → 0 < row → row ≤ rows → length places ≡ rows → (place_at places row).next ≤ life
    → (r l : ℕ) → 0 < r → l < (place_at places r).next → l < (place_at (with_place row (opened_place life) places) r).next
still rows row life places some within count later r l there below =
    by-row (l < (place_at (with_place row (opened_place life) places) r).next) r row
    (λ is.
    let next : (place_at places r).next ≡ (place_at places row).next = ap (λ (x : ℕ). (place_at places x).next) is in
    let up : l < life + 1 = omega (arith, below, next, later) in
    let now : place_at (with_place row (opened_place life) places) r ≡ opened_place life =
    ap (place_at (with_place row (opened_place life) places)) is ∙ place-here places row (opened_place life) some (omega (arith, within, count))
    in
    subst (λ (p : Place). l < p.next) (sym now) up)
    (λ not. subst (λ (p : Place). l < p.next) (sym (place-other places row r (opened_place life) some there not)) below)

-- The session is opened on a row in a later life.
pub served-opened : (rows row life : ℕ) (places : List Place) (opened : List ℕ) → 0 < row → row ≤ rows → length places ≡ rows → (place_at places row).next ≤ life
    → AreAscending (insert_ascending (thread_of rows (row - 1) life) opened) → AreServed rows places opened
    → AreServed rows (with_place row (opened_place life) places) (insert_ascending (thread_of rows (row - 1) life) opened)
served-opened rows row life places opened some within count later ascending served =
    record {
      ascending = ascending;
      each = each;
      all = all;
    }
  where
    thread : ℕ
    thread = thread_of rows (row - 1) life

    after : List Place
    after = with_place row (opened_place life) places

    here : place_at (with_place row (opened_place life) places) row ≡ opened_place life
    here = place-here places row (opened_place life) some (omega (arith, within, count))

    each : (t : ℕ) → IsOneOf (insert_ascending (thread_of rows (row - 1) life) opened) t → IsServed rows (with_place row (opened_place life) places) t
    each t is =
        elim (t == thread_of rows (row - 1) life) as (λ v. (t == thread_of rows (row - 1) life) ≡ v → IsServed rows (with_place row (opened_place life) places) t) [
          | true ↦ λ e.
              let below : life < (place_at (with_place row (opened_place life) places) row).next = subst (λ (p : Place). life < p.next) (sym here) (omega arith) in
              record { row = row; life = life; some = some; within = within; opened = below; thread_is = eqb-true t (thread_of rows (row - 1) life) e }
          | false ↦ λ e.
              let s = served.each t (one-before (thread_of rows (row - 1) life) t opened is e) in
              record { row = s.row; life = s.life; some = s.some; within = s.within; opened = still rows row life places some within count later s.row s.life s.some s.opened; thread_is = s.thread_is }
        ]
        refl

    all : (r : ℕ) → 0 < r → 0 < (place_at (with_place row (opened_place life) places) r).next → HasOne rows (insert_ascending (thread_of rows (row - 1) life) opened) r (place_at (with_place row (opened_place life) places) r)
    all r there up =
        by-row (HasOne rows (insert_ascending (thread_of rows (row - 1) life) opened) r (place_at (with_place row (opened_place life) places) r)) r row
        (λ is.
        let now : place_at (with_place row (opened_place life) places) r ≡ opened_place life = ap (place_at (with_place row (opened_place life) places)) is ∙ here in
        record {
          life = life;
          opened = ap (λ (p : Place). p.next) now;
          has = subst (λ (x : ℕ). IsOneOf (insert_ascending (thread_of rows (row - 1) life) opened) (thread_of rows (x - 1) life)) (sym is) (one-here (thread_of rows (row - 1) life) opened);
        })
        (λ not.
        let was = place-other places row r (opened_place life) some there not in
        let one = served.all r there (subst (λ (p : Place). 0 < p.next) was up) in
        record {
          life = one.life;
          opened = ap (λ (p : Place). p.next) was ∙ one.opened;
          has = one-more (thread_of rows (row - 1) life) (thread_of rows (r - 1) one.life) opened one.has;
        })

-- Nothing is opened.
pub served-same : (rows : ℕ) (old new : List Place) (opened : List ℕ) → ((r : ℕ) → 0 < r → (place_at new r).next ≡ (place_at old r).next) → AreServed rows old opened → AreServed rows new opened
served-same rows old new opened same served =
    record {
      ascending = served.ascending;
      each = λ t is.
          let s = served.each t is in
          record {
            row = s.row;
            life = s.life;
            some = s.some;
            within = s.within;
            opened = subst (λ (n : ℕ). s.life < n) (sym (same s.row s.some)) s.opened;
            thread_is = s.thread_is;
          };
      all = λ r there up.
          let one = served.all r there (subst (λ (n : ℕ). 0 < n) (same r there) up) in
          record { life = one.life; opened = same r there ∙ one.opened; has = one.has };
    }
