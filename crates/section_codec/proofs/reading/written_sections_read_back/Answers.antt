use Rattle.section_codec.proofs.ReadBack.{section_in-section_bytes, section_in-short_bytes, section_in-short_crc_bytes}
use Rattle.section_codec.proofs.reading.written_sections_read_back.Goals as goal

pub returns : goal.returns
returns c = record { long = section_in-section_bytes; short = section_in-short_bytes; tot = section_in-short_crc_bytes }
