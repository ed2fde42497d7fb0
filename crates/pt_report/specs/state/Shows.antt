-- What the counters stand for.
use Rattle.std.specs.Prelude.{◌≡◌, ◌+◌, Bool, false, List, [], ◌∷◌, ◌++◌, Ok, IsSome, count_by}
use Rattle.std.specs.List.{flat_map}
use Rattle.std.specs.Ordering.{nat_cmp}
use Rattle.ep_defs.specs.declared.item.ItemKind.{ItemKind}
use Rattle.ep_defs.specs.declared.item.ItemKind.TheVariants as item
use Rattle.ep_defs.specs.Entry.{Entry}
use Rattle.nt_blocks.specs.Ordered.{no_names, tell}
use Rattle.nt_check.specs.declared.checker.EventNames.{EventNames}
use Rattle.nt_check.specs.Events.{EventRest, event_item}
use Rattle.nt_check.specs.Numbers.{held, numbers_of}
use Rattle.nt_check.specs.state.Took.{names_at}
use Rattle.pt_report.specs.declared.counters.Totals.{Totals}
use Rattle.pt_report.specs.declared.counters.Counters.{Counters}
use Rattle.pt_report.specs.Report.{is_event, is_metadata, is_stack, is_point, trace_of, threads_in, definitions, used_definitions, used_stacks}
use Rattle.pt_report.specs.state.Counts.{Counts}
use Rattle.pt_report.specs.state.Events.{ShowsEvents}
use Rattle.pt_report.specs.state.Stacks.{ShowsStacks}

-- The totals with one more item.
abbrev pub with_total : Totals → ItemKind → Totals
with_total totals (item.Trace info) = totals
with_total totals (item.Meta id def) = record totals { metadata = held (totals.metadata + 1) }
with_total totals (item.Stack id bytes) = record totals { stacks = held (totals.stacks + 1) }
with_total totals (item.Event metadata number capture processor thread stack stamp activity related payload) = record totals { events = held (totals.events + 1) }
with_total totals (item.Point stamp threads) = record totals { points = held (totals.points + 1) }

-- The totals of these items.
abbrev pub totals_of : List ItemKind → Totals
totals_of kinds =
    record {
      events = held (count_by is_event kinds);
      metadata = held (count_by is_metadata kinds);
      stacks = held (count_by is_stack kinds);
      points = held (count_by is_point kinds);
    }

-- These items were counted, which tell these entries.
pub record Shows (kinds : List ItemKind) (entries : List Entry) (counters : Counters) : Type 0 where
  pub trace_is : counters.trace ≡ trace_of kinds
  pub totals_are : counters.totals ≡ totals_of kinds
  pub events_are : ShowsEvents (definitions kinds) (used_definitions entries) (names_at no_names kinds).definitions counters.events
  pub threads_are : Counts nat_cmp (flat_map threads_in kinds) [] counters.threads
  pub stacks_are : ShowsStacks (used_stacks entries) (names_at no_names kinds).stacks counters.stacks

-- An event was counted behind the items that were, of which what it names is enough; they name its thread, unless it may be the
-- first of it.
abbrev pub CountsEvent : EventNames → Bool → Counters → Counters → Type 0
CountsEvent event is_first old new =
    (kinds : List ItemKind) (entries more : List Entry) (rest : EventRest) → Shows kinds entries old
    → (is_first ≡ false → IsSome (numbers_of event.capture kinds)) → tell (names_at no_names kinds) (event_item event rest) ≡ Ok more
    → Shows (kinds ++ event_item event rest ∷ []) (entries ++ more) new
