use Rattle.ep_live_laws.proofs.laws.a_part_is_found.Goals as goal

pub returns : goal.returns
returns c events config writes info marks entries told bytes stream front canonical begins part =
    record {
      entries = entries;
      part = part;
      told = told;
      front = front;
      stream = stream;
      canonical = canonical;
      begins = begins;
      read = c.a_part_of_a_stream_is_found.ensures info told bytes stream canonical begins;
    }
