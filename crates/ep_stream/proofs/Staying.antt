-- What stays of a row set in one call after another.
use Rattle.std.proofs.Common.{◌≡◌, ℕ, List, Option, refl, ◌∙◌, subst}
use Rattle.std.specs.Prelude.{◌↔◌}
use Rattle.ep_defs.specs.declared.event.EventDef.{EventDef}
use Rattle.ep_defs.specs.declared.session.Config.{Config}
use Rattle.ep_defs.specs.declared.session.Marks.{Marks}
use Rattle.ep_defs.specs.declared.session.Write.{Write}
use Rattle.ep_slot.specs.Hand.{HandState}
use Rattle.ep_stream.specs.Rows.{KeepsSet, KeepsSlots}

both : {A B C : Type 0} → A ↔ B → B ↔ C → A ↔ C
both f g = (λ x. g.0 (f.0 x), λ x. f.1 (g.1 x))

pub set_stays : {R : Type 0} (count : R → ℕ) (definitions : R → List EventDef) (can_attach : R → ℕ → Config → Type 0) (tests_record : R → Config → ℕ → ℕ → ℕ → Write → Type 0) (tests_hand : R → ℕ → HandState → Type 0) (tests_marks : R → Config → Marks → Type 0) (rows : R) → KeepsSet count definitions can_attach tests_record tests_hand tests_marks rows rows
set_stays count definitions can_attach tests_record tests_hand tests_marks rows =
    record {
      count_is = refl;
      definitions_are = refl;
      attaches = λ slot config can. can;
      records = λ config thread from number write. (λ x. x, λ x. x);
      hands = λ row hand. (λ x. x, λ x. x);
      marks = λ config marks. (λ x. x, λ x. x);
    }

pub set_more : {R : Type 0} (count : R → ℕ) (definitions : R → List EventDef) (can_attach : R → ℕ → Config → Type 0) (tests_record : R → Config → ℕ → ℕ → ℕ → Write → Type 0) (tests_hand : R → ℕ → HandState → Type 0) (tests_marks : R → Config → Marks → Type 0) (old mid new : R) → KeepsSet count definitions can_attach tests_record tests_hand tests_marks old mid → KeepsSet count definitions can_attach tests_record tests_hand tests_marks mid new → KeepsSet count definitions can_attach tests_record tests_hand tests_marks old new
set_more count definitions can_attach tests_record tests_hand tests_marks old mid new a b =
    record {
      count_is = b.count_is ∙ a.count_is;
      definitions_are = b.definitions_are ∙ a.definitions_are;
      attaches = λ slot config can. b.attaches slot config (a.attaches slot config can);
      records = λ config thread from number write. both (b.records config thread from number write) (a.records config thread from number write);
      hands = λ row hand. both (b.hands row hand) (a.hands row hand);
      marks = λ config marks. both (b.marks config marks) (a.marks config marks);
    }

pub slots_stay : {R : Type 0} (expected : R → ℕ → ℕ → Option HandState) (configured : R → ℕ → ℕ → Option Config) (out : R → ℕ → ℕ) (slot : ℕ) (rows : R) → KeepsSlots expected configured out slot rows rows
slots_stay expected configured out slot rows =
    record { hands = λ r s other. refl; configs = λ r s other. refl; chunks = λ s other. refl }

pub slots_more : {R : Type 0} (expected : R → ℕ → ℕ → Option HandState) (configured : R → ℕ → ℕ → Option Config) (out : R → ℕ → ℕ) (slot now : ℕ) (old mid new : R) → now ≡ slot → KeepsSlots expected configured out slot old mid → KeepsSlots expected configured out now mid new → KeepsSlots expected configured out slot old new
slots_more expected configured out slot now old mid new same a b =
    let more : KeepsSlots expected configured out slot mid new = subst (λ (s : ℕ). KeepsSlots expected configured out s mid new) same b in
    record {
      hands = λ r s other. more.hands r s other ∙ a.hands r s other;
      configs = λ r s other. more.configs r s other ∙ a.configs r s other;
      chunks = λ s other. more.chunks s other ∙ a.chunks s other;
    }
