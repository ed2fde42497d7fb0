use Rattle.std.proofs.Common.{◌≡◌, ℕ, inl, inr, List, [], ◌∷◌, ◌++◌, sym, ◌∙◌, subst, arith}
use Rattle.std.proofs.lemmas.List.{append-nil}
use Rattle.ep_defs.specs.declared.session.TraceInfo.{TraceInfo}
use Rattle.ep_defs.specs.Entry.{Entry}
use Rattle.nt_write.specs.Canonical.{IsCanonical}
use Rattle.nt_laws.specs.Reading.{IsBegunAs, IsReadAs, IsReadUpTo}
use Rattle.nt_laws.proofs.laws.a_part_of_a_stream_is_found.Goals as goal

-- What is read whole is read as far as it goes.
read-whole : (info : TraceInfo) (entries : List Entry) (bytes : List ℕ) → (canonical : IsCanonical info entries bytes) → IsReadAs info entries canonical.items bytes → IsReadUpTo entries bytes
read-whole info entries bytes canonical read =
    record {
      items = canonical.items;
      found = inl read.found;
      ordered = read.ordered;
      first = entries;
      others = [];
      told = read.told;
      all = sym (append-nil entries);
    }

-- So is what goes on.
read-begun : (entries : List Entry) (bytes : List ℕ) → IsBegunAs entries bytes → IsReadUpTo entries bytes
read-begun entries bytes begun =
    record {
      items = begun.items;
      found = inr begun.more;
      ordered = begun.ordered;
      first = begun.first;
      others = begun.others;
      told = begun.told;
      all = begun.all;
    }

pub returns : goal.returns
returns c info entries part bytes canonical (left, all) = by left all
  where
    At : List ℕ → Type 0
    At those = IsCanonical info entries those

    by : (left : List ℕ) → part ++ left ≡ bytes → IsReadUpTo entries part
    by [] all =
        let here : IsCanonical info entries part = subst At (sym all ∙ append-nil part) canonical in
        read-whole info entries part here (c.a_canonical_stream_is_read_whole.ensures.read info entries part here)
    by (b ∷ left) all =
        read-begun entries part (c.a_stream_that_is_cut_is_not_refused.ensures.told info entries part (b ∷ left) (subst At (sym all) canonical) (omega arith))
