mod Contents
mod Extremes
mod Log
