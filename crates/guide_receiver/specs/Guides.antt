-- The heard guide of a packet list: what a receiver that heard just these packets has to show (EN 300 468, 5.2).
use Rattle.std.specs.Prelude.{ℕ, List, [], ◌++◌, filter}
use Rattle.ts_demux.specs.declared.section.RawSection.{RawSection}
use Rattle.ts_demux.specs.Sections.{heard_all}
use Rattle.sub_collect.specs.Marks.{Taken, content_over}
use Rattle.guide_screen.specs.View.{View}
use Rattle.guide_screen.specs.Holding.{content_in}
use Rattle.guide_screen.specs.Screen.{heard_of}
use Rattle.guide_screen.specs.declared.need.Heard.{Heard}
use Rattle.guide_receiver.specs.Dones.{counted_heard}
use Rattle.guide_receiver.specs.Latest.{last_of, keys_shown, keys_shown_over, is_pat_key, is_nit_key, is_sdt_key, other_sdts, clock_of, offsets_heard}

-- What is heard: of each key the content that it completed last; of the PAT, of the NIT and of the SDT of each
-- transport_stream_id the key whose completion was shown last; of the SDTs of other streams all keys; the moment that the last TDT tells,
-- and the offsets that the last TOT tells.
abbrev pub view_of : List (List ℕ) → View
view_of packets = record {
  content = content_in (counted_heard packets);
  pat = last_of (filter is_pat_key (keys_shown (counted_heard packets)));
  nit = last_of (filter is_nit_key (keys_shown (counted_heard packets)));
  sdt = λ ext. last_of (filter (is_sdt_key ext) (keys_shown (counted_heard packets)));
  others = other_sdts (keys_shown (counted_heard packets));
  clock = clock_of (heard_all [] packets);
  offsets = offsets_heard (heard_all [] packets);
}

-- The same of what was heard earlier and of packets, and of all sections that count with the marks between them.
abbrev pub view_after : List RawSection → List (List ℕ) → List Taken → View
view_after earlier packets taken = record {
  content = content_over taken;
  pat = last_of (filter is_pat_key (keys_shown_over taken));
  nit = last_of (filter is_nit_key (keys_shown_over taken));
  sdt = λ ext. last_of (filter (is_sdt_key ext) (keys_shown_over taken));
  others = other_sdts (keys_shown_over taken);
  clock = clock_of (earlier ++ heard_all [] packets);
  offsets = offsets_heard (earlier ++ heard_all [] packets);
}

-- The same of packets, and of their sections that count with the marks between them.
abbrev pub view_over : List (List ℕ) → List Taken → View
view_over packets taken = view_after [] packets taken

abbrev pub guide_over : List (List ℕ) → List Taken → Heard
guide_over packets taken = heard_of (view_over packets taken)

-- what is shown of it: the needs that are not met, or the whole screen
abbrev pub guide_of : List (List ℕ) → Heard
guide_of packets = heard_of (view_of packets)
