mod Floored
