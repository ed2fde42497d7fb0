-- What is read as a payload is how the payload of the definition is spelled.
use Rattle.std.proofs.Common.{◌≡◌, ℕ, zero, suc, ◌^◌, ◌<◌, ◌≤◌, Result, Ok, Err, List, [], ◌∷◌, ◌++◌, length, get_or, sym, ap, subst, ◌∙◌, append_assoc, arith}
use Rattle.std.specs.Prelude.{nat_le}
use Rattle.std.specs.Int.{w32, w64, is_in_range}
use Rattle.std.specs.List.{list_all}
use Rattle.std.proofs.lemmas.Bool.{and_from, and_parts, leb-true}
use Rattle.std.proofs.lemmas.List.Elements.{All-head, All-tail, All-from_get_or}
use Rattle.ep_defs.specs.declared.event.EventDef.{EventDef}
use Rattle.ep_defs.specs.Event.{are_nested}
use Rattle.ep_defs.specs.Ranges.{AreBytes}
use Rattle.pt_num.specs.Numbers.{fixed}
use Rattle.pt_num.specs.Texts.{text_z}
use Rattle.pt_num.specs.Steps.{check}
use Rattle.pt_num.proofs.Steps.{bind_inv}
use Rattle.nt_meta.specs.declared.limits.TheConstants.{LAST_ID}
use Rattle.nt_meta.specs.Meta.{fields_bytes, outermost_count, is_readable_field, FitsPayload, IsMeta}
use Rattle.nt_meta.specs.Reading.{Refused, Wrong, number_at, text_at, fields_at, def_at, meta_at}
use Rattle.nt_meta.proofs.FieldSteps.{same_part}
use Rattle.nt_meta.proofs.Forests.{check-inv, forest_read}
use Rattle.nt_meta.proofs.Spelled.{AreLow, low-after, number-spelled-32, number-spelled-64, text-spelled}

-- ---- bytes

pub low-of : (bytes : List ℕ) → AreBytes bytes → AreLow bytes
low-of [] h = λ i. omega arith
low-of (b ∷ bytes) h =
    λ i.
    elim i as (λ j. get_or (b ∷ bytes) j 0 < 256) [
      | zero ↦ All-head (λ byte. byte < 2 ^ 8) b bytes h
      | suc j ↦ low-of bytes (All-tail (λ byte. byte < 2 ^ 8) b bytes h) j
    ]

pub bytes-of : (bytes : List ℕ) → AreLow bytes → AreBytes bytes
bytes-of bytes low = All-from_get_or (λ byte. byte < 2 ^ 8) bytes 0 (λ i within. low i)

-- ---- a definition

-- The bytes of a definition after its id.
abbrev pub def_bytes : EventDef → List ℕ → List ℕ
def_bytes def rest =
    text_z def.provider ++ (fixed w32 def.id ++ (text_z def.name ++ (fixed w64 def.keywords ++ (fixed w32 def.version ++ (fixed w32 def.level ++ (fixed w32 (outermost_count def.fields) ++ (fields_bytes (length def.fields) def.fields ++ rest)))))))

-- The parts that were read, one after another.
record Parts (bytes rest : List ℕ) (def : EventDef) : Type 0 where
  r1 : List ℕ
  r2 : List ℕ
  r3 : List ℕ
  r4 : List ℕ
  r5 : List ℕ
  r6 : List ℕ
  r7 : List ℕ
  count : ℕ
  e1 : text_at bytes ≡ Ok (def.provider, r1)
  e2 : number_at w32 r1 ≡ Ok (def.id, r2)
  e3 : text_at r2 ≡ Ok (def.name, r3)
  e4 : number_at w64 r3 ≡ Ok (def.keywords, r4)
  e5 : number_at w32 r4 ≡ Ok (def.version, r5)
  e6 : number_at w32 r5 ≡ Ok (def.level, r6)
  e7 : number_at w32 r6 ≡ Ok (count, r7)
  e8 : fields_at (length r7) 0 count r7 ≡ Ok (def.fields, rest)

def_parts : (bytes rest : List ℕ) (def : EventDef) → def_at bytes ≡ Ok (def, rest) → Parts bytes rest def
unfolding def_at
def_parts bytes rest def e =
    let p = bind_inv (text_at bytes) _ (def, rest) e in
    let i = bind_inv (number_at w32 p.0.1) _ (def, rest) p.2 in
    let n = bind_inv (text_at i.0.1) _ (def, rest) i.2 in
    let k = bind_inv (number_at w64 n.0.1) _ (def, rest) n.2 in
    let v = bind_inv (number_at w32 k.0.1) _ (def, rest) k.2 in
    let l = bind_inv (number_at w32 v.0.1) _ (def, rest) v.2 in
    let c = bind_inv (number_at w32 l.0.1) _ (def, rest) l.2 in
    let f = bind_inv (fields_at (length c.0.1) 0 c.0.0 c.0.1) _ (def, rest) c.2 in
    let taken : EventDef = record { provider = p.0.0; id = i.0.0; version = v.0.0; level = l.0.0; keywords = k.0.0; name = n.0.0; fields = f.0.0 } in
    let made = same_part taken def f.0.1 rest f.2 in
    let parts : Parts bytes f.0.1 taken = record { r1 = p.0.1; r2 = i.0.1; r3 = n.0.1; r4 = k.0.1; r5 = v.0.1; r6 = l.0.1; r7 = c.0.1; count = c.0.0; e1 = p.1; e2 = i.1; e3 = n.1; e4 = k.1; e5 = v.1; e6 = l.1; e7 = c.1; e8 = f.1 } in
    subst (λ (r : List ℕ). Parts bytes r def) made.1 (subst (λ (d : EventDef). Parts bytes f.0.1 d) made.0 parts)

parts_spelled : (bytes r1 r2 r3 r4 r5 r6 r7 rest : List ℕ) (def : EventDef) (count : ℕ) → AreLow bytes → text_at bytes ≡ Ok (def.provider, r1) → number_at w32 r1 ≡ Ok (def.id, r2) → text_at r2 ≡ Ok (def.name, r3) → number_at w64 r3 ≡ Ok (def.keywords, r4) → number_at w32 r4 ≡ Ok (def.version, r5) → number_at w32 r5 ≡ Ok (def.level, r6) → number_at w32 r6 ≡ Ok (count, r7) → fields_at (length r7) 0 count r7 ≡ Ok (def.fields, rest) → FitsPayload def × (bytes ≡ def_bytes def rest) × AreLow rest
parts_spelled bytes r1 r2 r3 r4 r5 r6 r7 rest def count low e1 e2 e3 e4 e5 e6 e7 e8 =
    let sp = text-spelled bytes r1 def.provider low e1 in
    let lp : AreLow r1 = low-after (text_z def.provider) r1 (subst AreLow sp.0 low) in
    let si = number-spelled-32 r1 r2 def.id lp e2 in
    let li : AreLow r2 = low-after (fixed w32 def.id) r2 (subst AreLow si.0 lp) in
    let sn = text-spelled r2 r3 def.name li e3 in
    let ln : AreLow r3 = low-after (text_z def.name) r3 (subst AreLow sn.0 li) in
    let sk = number-spelled-64 r3 r4 def.keywords ln e4 in
    let lk : AreLow r4 = low-after (fixed w64 def.keywords) r4 (subst AreLow sk.0 ln) in
    let sv = number-spelled-32 r4 r5 def.version lk e5 in
    let lv : AreLow r5 = low-after (fixed w32 def.version) r5 (subst AreLow sv.0 lk) in
    let sl = number-spelled-32 r5 r6 def.level lv e6 in
    let ll : AreLow r6 = low-after (fixed w32 def.level) r6 (subst AreLow sl.0 lv) in
    let sc = number-spelled-32 r6 r7 count ll e7 in
    let lc : AreLow r7 = low-after (fixed w32 count) r7 (subst AreLow sc.0 ll) in
    let sf = forest_read (length r7) 0 count r7 def.fields rest e8 lc in
    let lf : AreLow rest = low-after (fields_bytes (length def.fields) def.fields) rest (subst AreLow sf.1 lc) in (
      record {
        id = si.1;
        version = sv.1;
        level = sl.1;
        keywords = sk.1;
        provider = sp.1;
        name = sn.1;
        counts = (subst (λ (m : ℕ). m < 2 ^ 32) (sym sf.0.count_is) sc.1, sf.0.counts);
        fields = and_from (list_all is_readable_field def.fields) (are_nested 0 def.fields) sf.0.readable sf.0.nested;
      },
      whole sp.0 si.0 sn.0 sk.0 sv.0 sl.0 (sc.0 ∙ ap (λ (m : ℕ). fixed w32 m ++ r7) (sym sf.0.count_is)) sf.1,
      lf,
    )
  where
    whole : bytes ≡ text_z def.provider ++ r1 → r1 ≡ fixed w32 def.id ++ r2 → r2 ≡ text_z def.name ++ r3 → r3 ≡ fixed w64 def.keywords ++ r4 → r4 ≡ fixed w32 def.version ++ r5 → r5 ≡ fixed w32 def.level ++ r6 → r6 ≡ fixed w32 (outermost_count def.fields) ++ r7 → r7 ≡ fields_bytes (length def.fields) def.fields ++ rest → bytes ≡ def_bytes def rest
    whole a b c d e f g h =
        a ∙ ap (λ (x : List ℕ). text_z def.provider ++ x) (b
        ∙ ap (λ (x : List ℕ). fixed w32 def.id ++ x) (c
        ∙ ap (λ (x : List ℕ). text_z def.name ++ x) (d
        ∙ ap (λ (x : List ℕ). fixed w64 def.keywords ++ x) (e
        ∙ ap (λ (x : List ℕ). fixed w32 def.version ++ x) (f
        ∙ ap (λ (x : List ℕ). fixed w32 def.level ++ x) (g
        ∙ ap (λ (x : List ℕ). fixed w32 (outermost_count def.fields) ++ x) h))))))

def_spelled : (bytes rest : List ℕ) (def : EventDef) → AreLow bytes → def_at bytes ≡ Ok (def, rest) → FitsPayload def × (bytes ≡ def_bytes def rest) × AreLow rest
def_spelled bytes rest def low e =
    let parts = def_parts bytes rest def e in
    parts_spelled bytes parts.r1 parts.r2 parts.r3 parts.r4 parts.r5 parts.r6 parts.r7 rest def parts.count low parts.e1 parts.e2 parts.e3 parts.e4 parts.e5 parts.e6 parts.e7 parts.e8

pub nine_grouped : (a b c d e f g h i rest : List ℕ) → a ++ (b ++ (c ++ (d ++ (e ++ (f ++ (g ++ (h ++ (i ++ rest)))))))) ≡ (a ++ b ++ c ++ d ++ e ++ f ++ g ++ h ++ i) ++ rest
nine_grouped a b c d e f g h i rest = simp append_assoc

-- ---- a payload

pair-same : (a b : ℕ) (x y : EventDef) → ◌≡◌ {A = Result (ℕ × EventDef) Refused} (Ok (a, x)) (Ok (b, y)) → (a ≡ b) × (x ≡ y)
pair-same a b x y e =
    (ap (λ (r : Result (ℕ × EventDef) Refused). elim r [ Ok p ↦ p.0 | Err fault ↦ a ]) e, ap (λ (r : Result (ℕ × EventDef) Refused). elim r [ Ok p ↦ p.1 | Err fault ↦ x ]) e)

-- What is read is a payload.
pub meta_spelled : (bytes : List ℕ) (id : ℕ) (def : EventDef) → AreBytes bytes → meta_at bytes ≡ Ok (id, def) → IsMeta id def bytes
unfolding meta_at
meta_spelled bytes id def fit e =
    let low = low-of bytes fit in
    let number = bind_inv (number_at w32 bytes) _ (id, def) e in
    let checked = bind_inv (check (is_in_range 1 LAST_ID number.0.0) Wrong) _ (id, def) number.2 in
    let defined = bind_inv (def_at number.0.1) _ (id, def) checked.2 in
    let same = pair-same number.0.0 id defined.0.0 def defined.2 in
    let spelled = number-spelled-32 bytes number.0.1 number.0.0 low number.1 in
    let behind : AreLow number.0.1 = low-after (fixed w32 number.0.0) number.0.1 (subst AreLow spelled.0 low) in
    let definition = def_spelled number.0.1 defined.0.1 defined.0.0 behind defined.1 in
    let range = and_parts (nat_le 1 number.0.0) (nat_le number.0.0 LAST_ID) (check-inv (is_in_range 1 LAST_ID number.0.0) checked.0 checked.1) in
    let some : 1 ≤ number.0.0 = leb-true 1 number.0.0 range.0 in
    let few : number.0.0 ≤ LAST_ID = leb-true number.0.0 LAST_ID range.1 in
    let d : EventDef = defined.0.0 in
    subst (λ (n : ℕ). IsMeta n def bytes) same.0
    (subst (λ (x : EventDef). IsMeta number.0.0 x bytes) same.1
    (record {
      more = defined.0.1;
      spelled = spelled.0
          ∙ ap (λ (b : List ℕ). fixed w32 number.0.0 ++ b) definition.1
          ∙ nine_grouped (fixed w32 number.0.0) (text_z d.provider) (fixed w32 d.id) (text_z d.name) (fixed w64 d.keywords) (fixed w32 d.version) (fixed w32 d.level) (fixed w32 (outermost_count d.fields)) (fields_bytes (length d.fields) d.fields) defined.0.1;
      not_zero = some;
      id_fits = few;
      def_fits = definition.0;
      more_bytes = bytes-of defined.0.1 definition.2;
    }))
